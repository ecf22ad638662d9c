-- The whole has a break if the rest has one.
-- Assumes nothing.
use Rattle.std.proofs.Common.{◌≡◌, ◌-◌, length, drop}
use Rattle.segmentation.specs.Forward.{breaks_by}
use Rattle.segmentation.specs.Layout.{table_of}
use Rattle.segmentation.proofs.breaks_from.Given as goal

abbrev pub invariant-loop-scalar : goal.invariant-loop-scalar
invariant-loop-scalar l =
    breaks_by (table_of l.table.bytes.now) l.initial.behind (drop l.from l.text) ≡ breaks_by (table_of l.table.bytes.now) l.behind (drop l.i l.text)

abbrev pub decreases-loop-scalar : goal.decreases-loop-scalar
decreases-loop-scalar l = length l.text - l.i
