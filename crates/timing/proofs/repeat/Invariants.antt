-- No more rounds pass than there were.
use Rattle.std.proofs.Common.{◌≤◌}
use Rattle.timing.proofs.repeat.Given as goal

abbrev pub invariant-loop-i : goal.invariant-loop-i
invariant-loop-i g l = goal.F-IsAlwaysCallable g l.passes × (l.count ≤ l.i)
