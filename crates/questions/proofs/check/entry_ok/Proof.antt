-- `crate::check::entry_ok` meets its contract: each way out by the test that it ends in.
-- Assumes nothing.
use borrow.Author.Tests.{not-true, not-false}
use Rattle.questions.proofs.check.Entries.{no_open, is_open, no_entry, is_complete}
use borrow.Author.Rules.{rules}
use Rattle.questions.proofs.check.entry_ok.Statement.{statement}
use Rattle.questions.proofs.check.entry_ok.Tie as tie

shared-slice-read-if1 : tie.Need-bounds-s-2
shared-slice-read-if1 c = search rules

sub-wait-ok : tie.Need-slice_bounds-wait_ok-count
sub-wait-ok c = search rules

part-wait-ok-start : tie.Need-slice_bounds-wait_ok-start
part-wait-ok-start c = search rules

part-wait-ok-end : tie.Need-slice_bounds-wait_ok-end
part-wait-ok-end c = search rules

wait-ok-requires : tie.Need-wait_ok-requires
wait-ok-requires c κs = search rules

returns : tie.Need-returns-then-not-wait_ok
returns c = no_open _ c.if-s-eq0.true c.wait_ok.ensures (not-true _ c.if-not-wait_ok.true-raw)

zero-part-requires : tie.Need-zero_part-requires
zero-part-requires c κs = search rules

returns-2 : tie.Need-returns-then-s-eq0
returns-2 c = is_open _ c.if-s-eq0.true c.wait_ok.ensures (not-false _ c.if-not-wait_ok.false-raw) c.zero_part.ensures

shared-slice-read-if3 : tie.Need-bounds-s-2-2
shared-slice-read-if3 c = search rules

returns-3 : tie.Need-returns-then-s-ne1
returns-3 c = no_entry _ c.if-s-eq0.false c.if-s-ne1.true

sub-event-ok : tie.Need-slice_bounds-event_ok-count
sub-event-ok c = search rules

part-event-ok-start : tie.Need-slice_bounds-event_ok-start
part-event-ok-start c = search rules

part-event-ok-end : tie.Need-slice_bounds-event_ok-end
part-event-ok-end c = search rules

event-ok-requires : tie.Need-event_ok-requires
event-ok-requires c κs = search rules

returns-4 : tie.Need-returns
returns-4 c = is_complete _ c.if-s-ne1.false c.event_ok.ensures

pub entry_ok_spec : {M : Type 1} → statement M
entry_ok_spec =
    tie.close
    (tie.spec
    shared-slice-read-if1
    sub-wait-ok
    part-wait-ok-start
    part-wait-ok-end
    wait-ok-requires
    returns
    zero-part-requires
    returns-2
    shared-slice-read-if3
    returns-3
    sub-event-ok
    part-event-ok-start
    part-event-ok-end
    event-ok-requires
    returns-4)
