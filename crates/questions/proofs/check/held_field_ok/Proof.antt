-- `crate::check::held_field_ok` meets its contract: each way out by the test that it ends in.
-- Assumes nothing.
use Rattle.questions.proofs.check.Entries.{is_unheld, no_held, is-held}
use borrow.Author.Rules.{rules}
use Rattle.questions.proofs.check.held_field_ok.Statement.{statement}
use Rattle.questions.proofs.check.held_field_ok.Tie as tie

shared-slice-read-if1 : tie.Need-bounds-s-0
shared-slice-read-if1 c = search rules

zero-part-requires : tie.Need-zero_part-requires
zero-part-requires c κs = search rules

returns : tie.Need-returns-then-s-eq0
returns c = is_unheld _ c.if-s-eq0.true c.zero_part.ensures

shared-slice-read-if2 : tie.Need-bounds-s-0-2
shared-slice-read-if2 c = search rules

returns-2 : tie.Need-returns-then-s-ne1
returns-2 c = no_held _ c.if-s-eq0.false c.if-s-ne1.true

sub-held-ok : tie.Need-slice_bounds-held_ok-count
sub-held-ok c = search rules

part-held-ok-start : tie.Need-slice_bounds-held_ok-start
part-held-ok-start c = search rules

part-held-ok-end : tie.Need-slice_bounds-held_ok-end
part-held-ok-end c = search rules

held-ok-requires : tie.Need-held_ok-requires
held-ok-requires c κs = search rules

returns-3 : tie.Need-returns
returns-3 c = is-held _ c.if-s-ne1.false c.held_ok.ensures

pub held_field_ok_spec : {M : Type 1} → statement M
held_field_ok_spec =
    tie.close
    (tie.spec
    shared-slice-read-if1
    zero-part-requires
    returns
    shared-slice-read-if2
    returns-2
    sub-held-ok
    part-held-ok-start
    part-held-ok-end
    held-ok-requires
    returns-3)
