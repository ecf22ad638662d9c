use Rattle.std.proofs.Common.{arith, refl}
use Rattle.session.specs.Area.{decode}
use Rattle.queue.proofs.event_queue.EventOfEntry.{each}
use Rattle.queue.proofs.event_queue.Draining.{one_most, drained_start, drained_size, drained_next, drained_end}
use Rattle.queue.proofs.event_queue.drain_pending.Goals as goal

pub loop-i-init : goal.loop-i-init
loop-i-init c = record { few = c.requires.3; sized = refl; drained = drained_start _ _ _ _ }

pub loop-i-preserved : goal.loop-i-preserved
loop-i-preserved c =
    let inv = c.loop-i.invariant in
    let fit = each _ (λ i. omega (arith, c.type_inv.session i)) c.requires.0 in
    let next = drained_next _ _ _ _ inv.drained fit c.drain_one-at.ensures in
    record {
      few = omega (arith, inv.few, c.drain_one-at.ensures.count, one_most c.loop-i.i (decode c.args.session.now).entries);
      sized = drained_size _ _ _ _ next;
      drained = next;
    }

pub returns : goal.returns
returns c = drained_end _ _ _ _ c.loop-i.invariant.drained (omega (arith, c.loop-i-test.false, c.header_at-h.ensures.2))
