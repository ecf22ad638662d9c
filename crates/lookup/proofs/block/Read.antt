-- The maps of a block, read where they stand: the cells of its tables, and what a search in a list finds.
-- Assumes nothing.
use mathlib.Core.Path.{◌≡◌, refl, ap, ◌∙◌}
use mathlib.Core.Bool.{Bool, true, false}
use mathlib.Core.List.{List, [], ◌∷◌}
use Prim.Native.Nat.{ℕ, zero, suc, ◌+◌, ◌≤◌, ◌<◌}
use native.Mathlib.Omega.{arith}
use lib.ListN.{drop, get_or}
use lib.Dec.{eqb}
use borrow.Author.Tests.{le-ltb}
use Rattle.area.proofs.Pick.{yes_no}
use Rattle.area.specs.Pick.{pick}
use Rattle.keys.specs.declared.key_code.KeyCode.{KeyCode}
use Rattle.keys.specs.CodeKey.{code_key, code_key_ok}
use Rattle.keys.proofs.key_code.CodeKeys.{code-key_exact}
use Rattle.lookup.specs.Sizes.{LISTS, LOCK_LISTS, MODIFIER_SETS, VKEYS, SCANS_FROM, PAGES, PAGES_FROM}
use Rattle.lookup.specs.Maps.{Item, find, find_code, list_for}
use Rattle.lookup.specs.Block.{key_of, next_of, entry_ok, item_of, list_ok, items_of, count_at, start_of, cell_at, list_at, coded_all, cells_from, codes_from, maps_of}
use Rattle.lookup.proofs.block.Entry.{there}
use Rattle.lookup.proofs.block.Passed.{Block, listed}

pub cells_at : (x : List ℕ) (m i k : ℕ) → k < m → get_or (cells_from x m i) k 0 ≡ cell_at x (i + k)
unfolding cells_from
cells_at x zero i k h = absurd (omega arith)
cells_at x (suc m) i zero h = let z : i + 0 ≡ i = omega arith in rw z
cells_at x (suc m) i (suc k) h =
    let z : i + suc k ≡ i + 1 + k = omega arith in rw z (cells_at x m (i + 1) k (omega arith))

pub cells_past : (x : List ℕ) (m i k : ℕ) → m ≤ k → get_or (cells_from x m i) k 0 ≡ 0
unfolding cells_from
cells_past x zero i k h = refl
cells_past x (suc m) i zero h = absurd (omega arith)
cells_past x (suc m) i (suc k) h = cells_past x m (i + 1) k (omega arith)

pub codes_at :
    (x : List ℕ) (m j k : ℕ) → k < m → list_for k (codes_from x m j) ≡ coded_all (list_at x (j + k))
unfolding codes_from list_for
codes_at x zero j k h = absurd (omega arith)
codes_at x (suc m) j zero h = let z : j + 0 ≡ j = omega arith in rw z
codes_at x (suc m) j (suc k) h =
    let z : j + suc k ≡ j + 1 + k = omega arith in rw z (codes_at x m (j + 1) k (omega arith))

-- each key passes p
abbrev pub Keyed : (ℕ → Bool) → List Item → Type 0
Keyed p [] = Unit {0}
Keyed p (i ∷ r) = (p i.key ≡ true) × Keyed p r

keyed : (p : ℕ → Bool) (n lo : ℕ) (l : List ℕ) → list_ok p n lo l ≡ true → Keyed p (items_of n l)
unfolding list_ok items_of item_of
keyed p zero lo l e = tt
keyed p (suc n) lo l e =
    let s = yes_no (entry_ok p lo l) _ e in ((there p lo l s.0).key, keyed p n (key_of l + 1) (next_of l) s.1)

find_keyed : (code : KeyCode) (its : List Item) → Keyed code_key_ok its → find_code code (coded_all its) ≡ find (code_key code) its
unfolding coded_all find_code find
find_keyed code [] k = refl
find_keyed code (i ∷ r) k = rw ((code-key_exact i.key k.0).0, find_keyed code r k.1)

module _ (x : List ℕ) (j : ℕ) (b : Block x) (h : LOCK_LISTS ≤ j) (k : j < LISTS) where
  -- the keys of the lists from the third on are numbers of key codes
  pub code_keyed : Keyed code_key_ok (list_at x j)
  unfolding list_at
  code_keyed =
      let o = rw (le-ltb j LOCK_LISTS h) at (listed x j b k).ok in
      keyed code_key_ok (count_at x j) 0 (drop (start_of x j) x) o

  -- so the search for a code is that for its number
  pub find-coded : (code : KeyCode) → find_code code (coded_all (list_at x j)) ≡ find (code_key code) (list_at x j)
  find-coded code = find_keyed code (list_at x j) code_keyed

-- ---- the maps

module _ (x : List ℕ) where
  pub flag-read : (maps_of x).has_alt_graph ≡ eqb (get_or x 0 0) 1
  unfolding maps_of
  flag-read = refl

  pub non_char_at : (k : ℕ) → k < VKEYS → get_or (maps_of x).non_char_keys k 0 ≡ cell_at x k
  unfolding maps_of
  non_char_at k h = let z : 0 + k ≡ k = omega arith in cells_at x VKEYS 0 k h ∙ ap (λ (i : ℕ). cell_at x i) z

  pub non_char_past : (k : ℕ) → VKEYS ≤ k → get_or (maps_of x).non_char_keys k 0 ≡ 0
  unfolding maps_of
  non_char_past k h = cells_past x VKEYS 0 k h

  pub scan_at : (k : ℕ) → k < VKEYS → get_or (maps_of x).scan_codes k 0 ≡ cell_at x (SCANS_FROM + k)
  unfolding maps_of
  scan_at k h = cells_at x VKEYS SCANS_FROM k h

  pub scan_past : (k : ℕ) → VKEYS ≤ k → get_or (maps_of x).scan_codes k 0 ≡ 0
  unfolding maps_of
  scan_past k h = cells_past x VKEYS SCANS_FROM k h

  pub vkey_at : (k : ℕ) → k < PAGES → get_or (maps_of x).virtual_keys k 0 ≡ cell_at x (PAGES_FROM + k)
  unfolding maps_of
  vkey_at k h = cells_at x PAGES PAGES_FROM k h

  -- the Num Lock list is list 0 or list 1
  pub num-lock-list : (on : Bool) → pick on (maps_of x).num_lock_on (maps_of x).num_lock_off ≡ list_at x (pick on 0 1)
  unfolding maps_of
  num-lock-list true = refl
  num-lock-list false = refl

  -- the list of a set of modifiers is list 2 and its bits, and a code is found in it by its number
  pub code_list :
      Block x → (s : ℕ) → s < MODIFIER_SETS → (code : KeyCode) →
      find_code code (list_for s (maps_of x).keys) ≡ find (code_key code) (list_at x (LOCK_LISTS + s))
  unfolding maps_of
  code_list b s h code = rw (codes_at x MODIFIER_SETS LOCK_LISTS s h) (find-coded x (LOCK_LISTS + s) b (omega arith) (omega arith) code)
