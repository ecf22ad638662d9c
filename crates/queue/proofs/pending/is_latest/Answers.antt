use Rattle.std.proofs.Common.{arith}
use Rattle.queue.proofs.pending.EntryLoops.{within, latest_open, latest-same, latest_end}
use Rattle.queue.proofs.pending.is_latest.Goals as goal
use Rattle.queue.proofs.pending.is_latest.Goals.{then-session-at-eq0, else-session-at-eq0}

pub bounds-session-at : goal.bounds-session-at
bounds-session-at c = omega (arith, within _ (λ k. omega (arith, c.type_inv.session k)) c.requires c.loop-i.i (omega arith))

pub get_u16-requires : goal.get_u16-requires
get_u16-requires c = omega (arith, within _ (λ k. omega (arith, c.type_inv.session k)) c.requires c.loop-i.i (omega arith))

pub loop-i-preserved : goal.loop-i-preserved
loop-i-preserved c =
    let inv = c.loop-i.invariant in
    elim c.if-session-at-eq0.branch [
      | then-session-at-eq0 w ↦ latest_open _ _ _ _ inv (omega arith) w.if-session-at-eq0.true w.get_u16.ensures w.latest-is
      | else-session-at-eq0 w ↦ latest-same _ _ _ _ inv (omega arith) w.if-session-at-eq0.false w.latest-is
    ]

pub returns : goal.returns
returns c = latest_end c.args.token.0 c.args.session.now c.loop-i.i c.loop-i.latest c.loop-i.invariant (omega arith)
