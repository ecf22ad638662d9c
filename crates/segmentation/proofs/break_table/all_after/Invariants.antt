-- The whole is what was found so far and what is left.
-- Assumes nothing.
use Rattle.area.proofs.Walk.{SoFar}
use Rattle.segmentation.specs.Layout.{after_last}
use Rattle.segmentation.proofs.break_table.all_after.Given as goal

abbrev pub invariant-loop-i : goal.invariant-loop-i
invariant-loop-i l = SoFar (after_last l.table) l.n l.ok l.i
