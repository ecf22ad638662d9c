-- What a block that passed question 3 is, as facts.
-- Assumes nothing.
use mathlib.Core.Path.{◌≡◌}
use mathlib.Core.Bool.{true}
use mathlib.Core.List.{List}
use Prim.Native.Nat.{ℕ, zero, suc, ◌+◌, ◌-◌, ◌≤◌, ◌<◌}
use native.Mathlib.Nat.{suc-add, zero-add}
use native.Mathlib.Omega.{arith}
use lib.Dec.{eqb, ltb}
use lib.ListN.{length, drop, get_or}
use borrow.Author.Tests.{ltb-false, eqb-true}
use Rattle.area.specs.Walk.{every}
use Rattle.area.proofs.Pick.{no_yes, yes_no}
use Rattle.area.proofs.Walk.{every_at}
use Rattle.lookup.specs.Sizes.{BLOCK_MOST, LISTS, HEAD}
use Rattle.lookup.specs.Block.{list_ok, used_of, count_at, size_at, start_of, list_key_ok, by_vkey, one_ok, lists_ok, table_ok, block_ok}

pub record Block (x : List ℕ) : Type 0 where
  pub most : length x ≤ BLOCK_MOST
  pub head : HEAD ≤ length x
  pub flag : get_or x 0 0 ≤ 1
  pub gap : get_or x 1 0 ≡ 0
  pub table : table_ok x ≡ true
  pub each : every (one_ok x) LISTS 0 ≡ true
  pub last : start_of x LISTS ≡ length x

pub passed : (x : List ℕ) → block_ok x ≡ true → Block x
unfolding block_ok lists_ok
passed x e =
    let a = no_yes (ltb BLOCK_MOST (length x)) _ e in
    let b = no_yes (ltb (length x) HEAD) _ a.1 in
    let c = no_yes (ltb 1 (get_or x 0 0)) _ b.1 in
    let d = yes_no (eqb (get_or x 1 0) 0) _ c.1 in
    let f = yes_no (table_ok x) _ d.1 in
    let g = yes_no (every (one_ok x) LISTS 0) _ f.1 in
    record {
      most = ltb-false BLOCK_MOST (length x) a.0;
      head = ltb-false (length x) HEAD b.0;
      flag = ltb-false 1 (get_or x 0 0) c.0;
      gap = eqb-true (get_or x 1 0) 0 d.0;
      table = f.0;
      each = g.0;
      last = eqb-true (start_of x LISTS) (length x) g.1;
    }

-- its header is there
pub headed : (x : List ℕ) → block_ok x ≡ true → HEAD ≤ length x
headed x e = (passed x e).head

start_mono : (x : List ℕ) (j d : ℕ) → start_of x j ≤ start_of x (d + j)
unfolding start_of
start_mono x j zero = rw (zero-add j) (omega arith)
start_mono x j (suc d) = let h = start_mono x j d in rw (suc-add d j) (omega arith)

-- list j of such a block
pub record Listed (x : List ℕ) (j : ℕ) : Type 0 where
  pub within : start_of x j ≤ length x
  pub after : HEAD ≤ start_of x j
  pub ok : list_ok (list_key_ok (by_vkey j)) (count_at x j) 0 (drop (start_of x j) x) ≡ true
  pub size : used_of (count_at x j) (drop (start_of x j) x) ≡ size_at x j

pub listed : (x : List ℕ) (j : ℕ) → Block x → j < LISTS → Listed x j
unfolding one_ok start_of
listed x j b h =
    let o = yes_no (list_ok (list_key_ok (by_vkey j)) (count_at x j) 0 (drop (start_of x j) x)) _ (every_at (one_ok x) LISTS 0 j b.each (omega arith) (omega arith)) in
    let m = start_mono x j (LISTS - j) in
    let k : LISTS - j + j ≡ LISTS = omega arith in
    let n : start_of x j ≤ start_of x LISTS = rw k at m in
    let l = b.last in
    let g : HEAD ≤ start_of x (j + 0) = start_mono x 0 j in
    record { within = omega arith; after = rw (no_more j) at g; ok = o.0; size = eqb-true _ _ o.1 }
  where
    no_more : (j : ℕ) → j + 0 ≡ j
    no_more j = omega arith
