-- Assumes nothing.
use Rattle.std.proofs.Common.{sym}
use Rattle.segmentation.proofs.Steps.{several_bad, several_first, several_alone}
use Rattle.segmentation.proofs.several_pieces.Goals as goal

pub returns-in_default : goal.returns-in_default
returns-in_default c = several_bad _ _ (sym c.in_default.ensures)

pub returns-then-text-n : goal.returns-then-text-n
returns-then-text-n c = several_alone _ _ _ _ (sym c.in-Some.ensures) c.if-text-n.true

pub returns : goal.returns
returns c = several_first _ _ _ _ (sym c.in-Some.ensures) _ c.props_at-p.ensures _ c.first.ensures _ c.breaks_from.ensures
