use Rattle.questions.proofs.check.Order.{too_low, too_high, rises_next, rises_end}
use Rattle.questions.proofs.check.rising_ok.Goals as goal
use Rattle.questions.proofs.check.rising_ok.Goals.{then-token-lo-via-then-token-lo, then-token-lo-via-else-token-lo+then-handed-token}

pub returns-then-token-lo : goal.returns-then-token-lo
returns-then-token-lo c =
    let inv = c.loop-i.invariant in
    elim c.then-token-lo.branch [
      | then-token-lo-via-then-token-lo w ↦ too_low _ _ _ _ _ inv c.loop-i-test.true c.get_u16-token.ensures w.if-token-lo.true
      | then-token-lo-via-else-token-lo+then-handed-token w ↦ too_high _ _ _ _ _ inv c.loop-i-test.true c.get_u16-token.ensures w.if-token-lo.false w.if-handed-token.true
    ]

pub loop-i-preserved : goal.loop-i-preserved
loop-i-preserved c = rises_next _ _ _ _ _ c.loop-i.invariant c.loop-i-test.true c.get_u16-token.ensures c.if-token-lo.false c.if-handed-token.false

pub returns : goal.returns
returns c = rises_end _ _ _ _ _ c.loop-i.invariant c.loop-i-test.false
