-- The area is that of the session of before with the events of the first i keys behind its last entry.
-- Assumes nothing.
use Rattle.message.proofs.opening.FocusQueued.{QueuedTo}
use Rattle.message.proofs.opening.queue_focus.Given as goal

abbrev pub invariant-loop-i : goal.invariant-loop-i
invariant-loop-i l = QueuedTo l.keyboard.layout.bytes.now l.keyboard.state.now l.st l.fn.session l.keys l.i l.session
