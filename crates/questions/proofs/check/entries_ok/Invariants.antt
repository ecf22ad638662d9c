use Rattle.questions.proofs.check.Entries.{AllOk}
use Rattle.questions.proofs.check.entries_ok.Given as goal

abbrev pub invariant-loop-i : goal.invariant-loop-i
invariant-loop-i l = AllOk l.s l.n l.i
