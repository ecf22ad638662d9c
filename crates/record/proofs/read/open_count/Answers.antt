use Rattle.record.proofs.read.Walk.{opens-more, opens-same, opens_end}
use Rattle.record.proofs.read.open_count.Goals as goal
use Rattle.record.proofs.read.open_count.Goals.{then-s-i-eq0, else-s-i-eq0}

pub loop-i-preserved : goal.loop-i-preserved
loop-i-preserved c =
    let inv = c.loop-i.invariant in
    elim c.if-s-i-eq0.branch [
      | then-s-i-eq0 w ↦ opens-more _ _ _ _ inv c.loop-i-test.true w.if-s-i-eq0.true w.open-is
      | else-s-i-eq0 w ↦ opens-same _ _ _ _ inv c.loop-i-test.true w.if-s-i-eq0.false w.open-is
    ]

pub returns : goal.returns
returns c = opens_end _ _ _ _ c.loop-i.invariant c.loop-i-test.false
