-- `crate::check::held_ok` meets its contract: each way out by the test that it ends in.
-- Assumes nothing.
use borrow.Author.Tests.{not-true, not-false}
use Rattle.questions.proofs.check.Records.{held-info, held-mark, held_end}
use borrow.Author.Rules.{rules}
use Rattle.questions.proofs.check.held_ok.Statement.{statement}
use Rattle.questions.proofs.check.held_ok.Tie as tie

info-ok-requires : tie.Need-info_ok-requires
info-ok-requires c κs = search rules

returns : tie.Need-returns-then-not-info_ok
returns c = held-info _ _ c.info_ok.ensures (not-true _ c.if-not-info_ok.true-raw)

shared-slice-read-if2 : tie.Need-bounds-s-70
shared-slice-read-if2 c = search rules

returns-2 : tie.Need-returns-then-s-gt1
returns-2 c = held-mark _ _ c.info_ok.ensures (not-false _ c.if-not-info_ok.false-raw) c.if-s-gt1.true

sub-units-ok : tie.Need-slice_bounds-units_ok-count
sub-units-ok c = search rules

part-units-ok-start : tie.Need-slice_bounds-units_ok-start
part-units-ok-start c = search rules

part-units-ok-end : tie.Need-slice_bounds-units_ok-end
part-units-ok-end c = search rules

units-ok-requires : tie.Need-units_ok-requires
units-ok-requires c κs = search rules

returns-3 : tie.Need-returns
returns-3 c =
    held_end _ _ c.info_ok.ensures (not-false _ c.if-not-info_ok.false-raw) c.if-s-gt1.false _ c.units_ok.ensures

pub held_ok_spec : {M : Type 1} → statement M
held_ok_spec =
    tie.close
    (tie.spec
    info-ok-requires
    returns
    shared-slice-read-if2
    returns-2
    sub-units-ok
    part-units-ok-start
    part-units-ok-end
    units-ok-requires
    returns-3)
