-- A table that passed question 11 has the bytes of its ranges, and they rise.
-- Assumes nothing.
use Rattle.std.proofs.Common.{sym, ap, ◌∙◌, arith}
use Rattle.std.proofs.Math.Nat.{sub-zero}
use Rattle.segmentation.specs.Layout.{table_of, first_at, props_by}
use Rattle.segmentation.proofs.break_table.Check.{last_is, kind_is}
use Rattle.segmentation.proofs.break_table.Passed.{checked}
use Rattle.segmentation.proofs.break_table.Search.{search_below, search_above, search_found, search_out}
use Rattle.segmentation.proofs.break_table.BreakTable.props_at.Goals as goal

pub get_u32-n-requires : goal.get_u32-n-requires
get_u32-n-requires c = omega (arith, (checked c.args.self.bytes.now c.args.self.whole).size)

pub loop-low-init : goal.loop-low-init
unfolding table_of
loop-low-init c = record { inside = omega (arith, c.get_u32-n.ensures); same = rw (sub-zero, c.get_u32-n.ensures) }

pub get_u32-requires : goal.get_u32-requires
get_u32-requires c = omega (arith, (checked c.args.self.bytes.now c.args.self.whole).size)

pub loop-low-preserved-then-scalar-get_u32 : goal.loop-low-preserved-then-scalar-get_u32
unfolding first_at
loop-low-preserved-then-scalar-get_u32 c =
    let ok = checked c.args.self.bytes.now c.args.self.whole in
    let inv = c.loop-low.invariant in
    record {
      inside = omega arith;
      same = inv.same ∙ search_below _ ok _ _ _ c.loop-low-test.true inv.inside (omega (arith, c.get_u32.ensures));
    }

pub get_u32-requires-else-scalar-get_u32 : goal.get_u32-requires-else-scalar-get_u32
get_u32-requires-else-scalar-get_u32 c = omega (arith, (checked c.args.self.bytes.now c.args.self.whole).size)

pub bounds-self-n : goal.bounds-self-n
bounds-self-n c = omega (arith, (checked c.args.self.bytes.now c.args.self.whole).size)

pub returns-then-scalar-get_u32-2 : goal.returns-then-scalar-get_u32-2
unfolding first_at
returns-then-scalar-get_u32-2 c =
    let ok = checked c.args.self.bytes.now c.args.self.whole in
    let inv = c.loop-low.invariant in
    let last = last_is _ _ _ c.get_u32-n.ensures _ c.get_u32-else-scalar-get_u32.ensures in
    c.props_by.ensures
    ∙ ap props_by (kind_is _ _ _ c.get_u32-n.ensures)
    ∙ sym (inv.same ∙ search_found _ ok _ _ _ c.loop-low-test.true inv.inside (omega (arith, c.get_u32.ensures)) (omega (arith, last)))

pub loop-low-preserved : goal.loop-low-preserved
loop-low-preserved c =
    let ok = checked c.args.self.bytes.now c.args.self.whole in
    let inv = c.loop-low.invariant in
    let last = last_is _ _ _ c.get_u32-n.ensures _ c.get_u32-else-scalar-get_u32.ensures in
    record {
      inside = inv.inside;
      same = inv.same ∙ search_above _ ok _ _ _ c.loop-low-test.true inv.inside (omega (arith, last));
    }

pub returns : goal.returns
returns c = sym (c.loop-low.invariant.same ∙ search_out _ _ _ _ c.loop-low-test.false)
