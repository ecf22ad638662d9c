use Rattle.questions.proofs.check.Order.{Rises}
use Rattle.questions.proofs.check.rising_ok.Given as goal

abbrev pub invariant-loop-i : goal.invariant-loop-i
invariant-loop-i l = Rises l.handed l.s l.n l.i l.lo
