-- List i starts at `at`.
-- Assumes nothing.
use Rattle.std.proofs.Common.{◌≡◌, ◌+◌, ◌*◌, ◌≤◌, ◌^◌}
use Rattle.lookup.specs.Sizes.{HEAD}
use Rattle.lookup.specs.Block.{start_of}
use Rattle.lookup.proofs.keyboard_layout.start_of.Given as goal

abbrev pub invariant-loop-i : goal.invariant-loop-i
invariant-loop-i l = record { bound : l.at ≤ HEAD + 2 ^ 16 * l.i; place : l.at ≡ start_of l.block l.i }
