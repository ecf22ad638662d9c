-- The whole is what was found so far and what is left.
-- Assumes nothing.
use Rattle.area.proofs.Walk.{SoFar}
use Rattle.segmentation.specs.Layout.{ends_at}
use Rattle.segmentation.proofs.break_table.all_ends.Given as goal

abbrev pub invariant-loop-i : goal.invariant-loop-i
invariant-loop-i l = SoFar (ends_at l.table) l.n l.ok l.i
