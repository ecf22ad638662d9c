-- What the whole search finds, it finds between low and high.
-- Assumes nothing.
use Rattle.std.proofs.Common.{◌≡◌, ◌≤◌, ◌-◌}
use Rattle.segmentation.specs.Layout.{count_in, table_of}
use Rattle.segmentation.specs.Table.{props_in}
use Rattle.segmentation.proofs.break_table.Search.{found}
use Rattle.segmentation.proofs.break_table.BreakTable.props_at.Given as goal

abbrev pub invariant-loop-low : goal.invariant-loop-low
invariant-loop-low l =
    record { inside : l.high ≤ count_in l.self.bytes.now; same : props_in (table_of l.self.bytes.now) l.scalar ≡ found l.self.bytes.now l.scalar l.low l.high }

abbrev pub decreases-loop-low : goal.decreases-loop-low
decreases-loop-low l = l.high - l.low
