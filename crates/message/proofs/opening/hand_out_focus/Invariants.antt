-- The events of the first i keys stand one behind the other.
-- Assumes nothing.
use Rattle.session.proofs.Writes.{Handing}
use Rattle.event.proofs.focus.Events.{events_to}
use Rattle.message.proofs.opening.hand_out_focus.Given as goal

abbrev pub invariant-loop-i : goal.invariant-loop-i
invariant-loop-i l = Handing (events_to l.keyboard.layout.bytes.now l.keyboard.state.now l.st l.keys l.i) l.fn.answers l.answers
