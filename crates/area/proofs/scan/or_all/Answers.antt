-- A turn takes the byte from the rest.
-- Assumes nothing.
use Rattle.std.proofs.Common.{sym, ◌∙◌}
use Rattle.area.proofs.Zero.{or_rest_turn, or_rest_end}
use Rattle.area.proofs.scan.or_all.Goals as goal

pub loop-x-preserved : goal.loop-x-preserved
loop-x-preserved c = sym (or_rest_turn _ _ _ c.loop-x-test.true) ∙ c.loop-x.invariant

pub returns : goal.returns
returns c = sym (or_rest_end _ _ _ c.loop-x-test.false) ∙ c.loop-x.invariant
