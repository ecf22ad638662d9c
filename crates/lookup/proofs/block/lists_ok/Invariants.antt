-- List j starts at `at`, and all lists are in order if those that are left are.
-- Assumes nothing.
use Rattle.std.proofs.Common.{◌≡◌, ◌-◌, ◌≤◌, length}
use Rattle.area.specs.Walk.{every}
use Rattle.lookup.specs.Sizes.{LISTS}
use Rattle.lookup.specs.Block.{one_ok, start_of}
use Rattle.lookup.proofs.block.lists_ok.Given as goal

abbrev pub invariant-loop-j : goal.invariant-loop-j
invariant-loop-j l =
    record {
      within : l.at ≤ length l.block;
      place : l.at ≡ start_of l.block l.j;
      left : every (one_ok l.block) LISTS 0 ≡ every (one_ok l.block) (LISTS - l.j) l.j;
    }
