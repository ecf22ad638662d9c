-- The list is in order if the entries that are left are, from `at` and lo on.
-- Assumes nothing.
use Rattle.std.proofs.Common.{◌≡◌, ◌+◌, ◌-◌, ◌^◌, ◌≤◌, length, drop}
use Rattle.lookup.specs.Block.{list_ok, used_of, list_key_ok}
use Rattle.lookup.proofs.block.list_end.Given as goal

abbrev pub invariant-loop : goal.invariant-loop
invariant-loop l =
    record {
      within : l.at ≤ length l.block;
      low : l.lo ≤ 2 ^ 48;
      ok : list_ok (list_key_ok l.by_vkey) l.n 0 (drop l.start l.block) ≡ list_ok (list_key_ok l.by_vkey) (l.n - l.counter) l.lo (drop l.at l.block);
      used : l.start + used_of l.n (drop l.start l.block) ≡ l.at + used_of (l.n - l.counter) (drop l.at l.block);
    }
