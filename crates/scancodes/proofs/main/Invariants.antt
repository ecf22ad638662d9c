-- No more codes are unidentified than were looked at.
use Rattle.std.proofs.Common.{◌≤◌}
use Rattle.scancodes.proofs.main.Given as goal

abbrev pub invariant-loop-scancode : goal.invariant-loop-scancode
invariant-loop-scancode l = l.unidentified ≤ l.scancode
