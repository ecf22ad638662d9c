use Rattle.std.proofs.Common.{◌-◌}
use Rattle.queue.proofs.pending.EntryLoops.{Sought}
use Rattle.queue.proofs.pending.find.Given as goal

abbrev pub invariant-loop-i : goal.invariant-loop-i
invariant-loop-i l = Sought l.token.0 l.session l.i

abbrev pub decreases-loop-i : goal.decreases-loop-i
decreases-loop-i l = l.n - l.i
