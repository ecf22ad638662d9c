use Rattle.std.proofs.Common.{◌≡◌, ◌≤◌, length}
use Rattle.session.specs.Area.{decode}
use Rattle.queue.proofs.event_queue.Draining.{Drained}
use Rattle.queue.proofs.event_queue.drain_pending.Given as goal

-- no more events written than entries passed
abbrev pub invariant-loop-i : goal.invariant-loop-i
invariant-loop-i l = record {
  few : l.at ≤ l.i;
  sized : length l.answers ≡ length l.initial.answers;
  drained : Drained (decode l.session).entries l.first l.written l.initial.answers l.answers l.at l.i;
}
