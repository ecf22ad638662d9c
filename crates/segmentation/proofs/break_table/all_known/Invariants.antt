-- The whole is what was found so far and what is left.
-- Assumes nothing.
use Rattle.area.proofs.Walk.{SoFar}
use Rattle.segmentation.specs.Layout.{known_at}
use Rattle.segmentation.proofs.break_table.all_known.Given as goal

abbrev pub invariant-loop-kind : goal.invariant-loop-kind
invariant-loop-kind l = SoFar (known_at l.table) l.n l.ok l.kind-index
