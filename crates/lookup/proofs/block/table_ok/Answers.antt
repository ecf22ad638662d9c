-- Each cell is the one at which the walk is.
-- Assumes nothing.
use Rattle.std.proofs.Common.{refl, sym, ◌∙◌}
use Rattle.area.proofs.Walk.{every_end, every-next, every_stop}
use Rattle.lookup.specs.Block.{table_ok}
use Rattle.lookup.proofs.block.table_ok.Goals as goal

pub loop-i-init : goal.loop-i-init
unfolding table_ok
loop-i-init c = refl

pub returns-then-not-non_char_ok : goal.returns-then-not-non_char_ok
returns-then-not-non_char_ok c =
    sym (c.loop-i.invariant ∙ every_stop _ _ _ c.loop-i-test.true (sym (rw c.get_u16.ensures at c.non_char_ok.ensures) ∙ c.if-not-non_char_ok.true))

pub loop-i-preserved : goal.loop-i-preserved
loop-i-preserved c =
    c.loop-i.invariant ∙ every-next _ _ _ c.loop-i-test.true (sym (rw c.get_u16.ensures at c.non_char_ok.ensures) ∙ c.if-not-non_char_ok.false)

pub returns : goal.returns
returns c = sym (c.loop-i.invariant ∙ every_end _ _ _ c.loop-i-test.false)
