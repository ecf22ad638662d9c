use Rattle.record.proofs.read.Walk.{Opens}
use Rattle.record.proofs.read.open_count.Given as goal

abbrev pub invariant-loop-i : goal.invariant-loop-i
invariant-loop-i l = Opens l.s l.n l.i l.open
