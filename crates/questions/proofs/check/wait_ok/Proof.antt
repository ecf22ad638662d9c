-- `crate::check::wait_ok` meets its contract: each way out by the test that it ends in.
-- Assumes nothing.
use borrow.Author.Tests.{not-true, not-false}
use Rattle.questions.proofs.check.Entries.{no_press, is_press, no_wait, is_release, no_behind, is-character}
use borrow.Author.Rules.{rules}
use Rattle.questions.proofs.check.wait_ok.Statement.{statement}
use Rattle.questions.proofs.check.wait_ok.Tie as tie

shared-slice-read-if1 : tie.Need-bounds-s-0
shared-slice-read-if1 c = search rules

sub-pressed-ok : tie.Need-slice_bounds-pressed_ok-count
sub-pressed-ok c = search rules

part-pressed-ok-start : tie.Need-slice_bounds-pressed_ok-start
part-pressed-ok-start c = search rules

part-pressed-ok-end : tie.Need-slice_bounds-pressed_ok-end
part-pressed-ok-end c = search rules

pressed-ok-requires : tie.Need-pressed_ok-requires
pressed-ok-requires c κs = search rules

returns : tie.Need-returns-then-not-pressed_ok
returns c = no_press _ c.if-s-eq0.true c.pressed_ok.ensures (not-true _ c.if-not-pressed_ok.true-raw)

zero-part-requires : tie.Need-zero_part-requires
zero-part-requires c κs = search rules

returns-2 : tie.Need-returns-then-s-eq0
returns-2 c = is_press _ c.if-s-eq0.true c.pressed_ok.ensures (not-false _ c.if-not-pressed_ok.false-raw) c.zero_part.ensures

shared-slice-read-if3 : tie.Need-bounds-s-0-2
shared-slice-read-if3 c = search rules

returns-3 : tie.Need-returns-then-s-ne1
returns-3 c = no_wait _ c.if-s-eq0.false c.if-s-ne1.true

shared-slice-read-if4 : tie.Need-bounds-s-1
shared-slice-read-if4 c = search rules

sub-info-ok : tie.Need-slice_bounds-info_ok-count
sub-info-ok c = search rules

part-info-ok-start : tie.Need-slice_bounds-info_ok-start
part-info-ok-start c = search rules

part-info-ok-end : tie.Need-slice_bounds-info_ok-end
part-info-ok-end c = search rules

info-ok-requires : tie.Need-info_ok-requires
info-ok-requires c κs = search rules

returns-4 : tie.Need-returns-then-s-eq0-2
returns-4 c = is_release _ c.if-s-ne1.false c.if-s-eq0-2.true c.info_ok.ensures

shared-slice-read-if5 : tie.Need-bounds-s-1-2
shared-slice-read-if5 c = search rules

returns-5 : tie.Need-returns-then-s-ne1-2
returns-5 c = no_behind _ c.if-s-ne1.false c.if-s-eq0-2.false c.if-s-ne1-2.true

zero-part-requires-2 : tie.Need-zero_part-requires-2
zero-part-requires-2 c κs = search rules

returns-6 : tie.Need-returns
returns-6 c =
    is-character _ c.if-s-ne1.false c.if-s-ne1-2.false c.zero_part-2.ensures

pub wait_ok_spec : {M : Type 1} → statement M
wait_ok_spec =
    tie.close
    (tie.spec
    shared-slice-read-if1
    sub-pressed-ok
    part-pressed-ok-start
    part-pressed-ok-end
    pressed-ok-requires
    returns
    zero-part-requires
    returns-2
    shared-slice-read-if3
    returns-3
    shared-slice-read-if4
    sub-info-ok
    part-info-ok-start
    part-info-ok-end
    info-ok-requires
    returns-4
    shared-slice-read-if5
    returns-5
    zero-part-requires-2
    returns-6)
