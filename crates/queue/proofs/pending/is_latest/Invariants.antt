use Rattle.queue.proofs.pending.EntryLoops.{Latest}
use Rattle.queue.proofs.pending.is_latest.Given as goal

abbrev pub invariant-loop-i : goal.invariant-loop-i
invariant-loop-i l = Latest l.token.0 l.session l.i l.latest
