-- `crate::check::info_ok` meets its contract: each way out by the test that it ends in.
-- Assumes nothing.
use borrow.Author.Tests.{not-true, not-false}
use Rattle.questions.proofs.check.Records.{info-repeat, info-location, info-key, info_end}
use borrow.Author.Rules.{rules}
use Rattle.questions.proofs.check.info_ok.Statement.{statement}
use Rattle.questions.proofs.check.info_ok.Tie as tie

shared-slice-read-if1 : tie.Need-bounds-s-2
shared-slice-read-if1 c = search rules

returns : tie.Need-returns-then-s-gt1
returns c = info-repeat _ c.if-s-gt1.true

shared-slice-read-if2 : tie.Need-bounds-s-3
shared-slice-read-if2 c = search rules

returns-2 : tie.Need-returns-then-s-gt3
returns-2 c = info-location _ c.if-s-gt1.false c.if-s-gt3.true

sub-key-ok : tie.Need-slice_bounds-key_ok-count
sub-key-ok c = search rules

part-key-ok-start : tie.Need-slice_bounds-key_ok-start
part-key-ok-start c = search rules

part-key-ok-end : tie.Need-slice_bounds-key_ok-end
part-key-ok-end c = search rules

key-ok-requires : tie.Need-key_ok-requires
key-ok-requires c κs = search rules

returns-3 : tie.Need-returns-then-not-key_ok
returns-3 c =
    info-key _ c.if-s-gt1.false c.if-s-gt3.false _ c.key_ok.ensures (not-true _ c.if-not-key_ok.true-raw)

sub-key-ok-2 : tie.Need-slice_bounds-key_ok-count-2
sub-key-ok-2 c = search rules

part-key-ok-start-2 : tie.Need-slice_bounds-key_ok-start-2
part-key-ok-start-2 c = search rules

part-key-ok-end-2 : tie.Need-slice_bounds-key_ok-end-2
part-key-ok-end-2 c = search rules

key-ok-requires-2 : tie.Need-key_ok-requires-2
key-ok-requires-2 c κs = search rules

returns-4 : tie.Need-returns
returns-4 c =
    info_end _ c.if-s-gt1.false c.if-s-gt3.false _ c.key_ok.ensures (not-false _ c.if-not-key_ok.false-raw) _
    c.key_ok-2.ensures

pub info_ok_spec : {M : Type 1} → statement M
info_ok_spec =
    tie.close
    (tie.spec
    shared-slice-read-if1
    returns
    shared-slice-read-if2
    returns-2
    sub-key-ok
    part-key-ok-start
    part-key-ok-end
    key-ok-requires
    returns-3
    sub-key-ok-2
    part-key-ok-start-2
    part-key-ok-end-2
    key-ok-requires-2
    returns-4)
