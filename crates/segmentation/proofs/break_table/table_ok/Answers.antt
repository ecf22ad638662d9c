-- One law of `table_ok` for each way out.
-- Assumes nothing.
use Rattle.std.proofs.Common.{sym, ◌∙◌, arith}
use Rattle.segmentation.proofs.break_table.Check.{ok_long, ok-short, ok_form, ok-size, ok_ranges, parts-ok}
use Rattle.segmentation.proofs.break_table.table_ok.Goals as goal

pub returns-then-table-gt-TABLE_MOST : goal.returns-then-table-gt-TABLE_MOST
returns-then-table-gt-TABLE_MOST c = ok_long c.args.table.now (omega arith)

pub returns-then-table-lt-HEAD : goal.returns-then-table-lt-HEAD
returns-then-table-lt-HEAD c = ok-short c.args.table.now (omega arith) (omega arith)

pub returns-then-get_u32-ne-FORM : goal.returns-then-get_u32-ne-FORM
returns-then-get_u32-ne-FORM c =
    ok_form c.args.table.now (omega arith) (omega arith) (λ e. c.if-get_u32-ne-FORM.true (c.get_u32.ensures ∙ e))

pub returns-then-table-n : goal.returns-then-table-n
returns-then-table-n c =
    let x = c.args.table.now in
    let e = sym c.get_u32.ensures ∙ c.if-get_u32-ne-FORM.false in
    parts-ok x _ _ _ _ c.get_u32-n.ensures c.all_after.ensures c.all_ends.ensures c.all_known.ensures
    ∙ ok_ranges x (omega arith) (omega arith) e (omega (arith, c.get_u32-n.ensures))

pub returns : goal.returns
returns c =
    let x = c.args.table.now in
    let e = sym c.get_u32.ensures ∙ c.if-get_u32-ne-FORM.false in
    ok-size x (omega arith) (omega arith) e (λ h. c.if-table-n.false (omega (arith, c.get_u32-n.ensures)))
