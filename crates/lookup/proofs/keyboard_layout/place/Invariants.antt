-- The entry is at the place where it is found among those that are left.
-- Assumes nothing.
use Rattle.std.proofs.Common.{◌-◌}
use Rattle.lookup.specs.Block.{list_key_ok}
use Rattle.lookup.proofs.block.Find.{Walking}
use Rattle.lookup.proofs.keyboard_layout.place.Given as goal

abbrev pub invariant-loop : goal.invariant-loop
invariant-loop l = Walking (list_key_ok l.by_vkey) l.block l.n l.key l.start (l.n - l.counter) l.at
