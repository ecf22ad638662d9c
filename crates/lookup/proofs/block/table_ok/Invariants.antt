-- The table is in order if the cells that are left are.
-- Assumes nothing.
use Rattle.std.proofs.Common.{◌≡◌, ◌-◌}
use Rattle.area.specs.Walk.{every}
use Rattle.lookup.specs.Sizes.{VKEYS}
use Rattle.lookup.specs.Maps.{non_char_ok}
use Rattle.lookup.specs.Block.{cell_at, table_ok}
use Rattle.lookup.proofs.block.table_ok.Given as goal

abbrev pub invariant-loop-i : goal.invariant-loop-i
invariant-loop-i l = table_ok l.block ≡ every (λ k. non_char_ok (cell_at l.block k)) (VKEYS - l.i) l.i
