-- Bytes that pass question 3 are read as maps that meet the conditions, and are the block of these maps.
-- Assumes nothing.
use mathlib.Core.Path.{◌≡◌, refl, sym, ap, ◌∙◌}
use mathlib.Core.Bool.{true}
use mathlib.Core.List.{List, [], ◌∷◌, ◌++◌, append_assoc, append-nil}
use Prim.Native.Nat.{ℕ, zero, suc, ◌+◌, ◌≤◌, ◌<◌}
use native.Mathlib.Numerals.{add-one}
use native.Mathlib.Omega.{arith}
use lib.Dec.{eqb}
use lib.ListN.{length, drop, get_or, length-append, length-drop}
use lib.Seq.{drop-drop, drop-cons, drop-length}
use borrow.Author.Tests.{le-ltb}
use Rattle.area.specs.Pick.{pick}
use Rattle.area.specs.Bytes.{Bytes}
use Rattle.area.proofs.Bytes.{bytes_drop}
use Rattle.keys.specs.CodeKey.{code_key_ok}
use Rattle.keys.proofs.key_code.CodeKeys.{code-key_exact}
use Rattle.lookup.specs.Sizes.{LOCK_LISTS, MODIFIER_SETS, LISTS, VKEYS, SCANS_FROM, PAGES, PAGES_FROM, COUNTS_AT, SIZES_AT, CELLS_AT, HEAD}
use Rattle.lookup.specs.Maps.{Item, MapsOk, items_ok, numbered_all, codes_fit, code_lists_ok, non_char_ok}
use Rattle.lookup.specs.Block.{used_of, count_at, size_at, start_of, list_key_ok, by_vkey, table_ok, block_ok, list_at, coded_all, codes_from, maps_of}
use Rattle.lookup.specs.Encode.{encode_items, words, bodies, counts, sizes, numbered_lists, lists_in, cells_in, block_of}
use Rattle.lookup.proofs.block.Lists.{used_fits}
use Rattle.lookup.proofs.block.Passed.{Block, passed, listed}
use Rattle.lookup.proofs.block.Read.{Keyed, code_keyed}
use Rattle.lookup.proofs.block.Items.{items_exact, Exacts}
use Rattle.lookup.proofs.block.Rows.{row_from, row_exact, row_words, cells_row, cells_count, cells-every}
use Rattle.lookup.proofs.block.MapsBack.{lists_from, cells-words}

-- list j
module _ (x : List ℕ) (b : Bytes x) (k : Block x) (j : ℕ) (h : j < LISTS) where
  its : Exacts (list_key_ok (by_vkey j)) (count_at x j) 0 (drop (start_of x j) x)
  its =
      items_exact (list_key_ok (by_vkey j)) (count_at x j) 0 (drop (start_of x j) x) (bytes_drop (start_of x j) x b) (listed x j k h).ok

  one-count : length (list_at x j) ≡ count_at x j
  unfolding list_at
  one-count = its.count

  one_ok_lem : items_ok (list_key_ok (by_vkey j)) 0 (list_at x j) ≡ true
  unfolding list_at
  one_ok_lem = its.ok

  one-bytes : encode_items (list_at x j) ++ drop (start_of x (j + 1)) x ≡ drop (start_of x j) x
  unfolding list_at start_of
  one-bytes =
      let d : drop (used_of (count_at x j) (drop (start_of x j) x)) (drop (start_of x j) x) ≡ drop (start_of x j + size_at x j) x =
      rw (listed x j k h).size (drop-drop (size_at x j) (start_of x j) x) in
      rw (add-one, ← d) its.bytes

  one_size : length (encode_items (list_at x j)) ≡ size_at x j
  unfolding start_of
  one_size =
      let l = listed x j k h in
      let u = used_fits (list_key_ok (by_vkey j)) (count_at x j) 0 (drop (start_of x j) x) l.ok in
      let e = simp length-append at (ap length one-bytes) in
      let s : start_of x (j + 1) ≡ start_of x j + size_at x j = rw add-one in
      omega (arith, length-drop (start_of x (j + 1)) x, length-drop (start_of x j) x, l.within, l.size)

coded-same : (its : List Item) → Keyed code_key_ok its → (numbered_all (coded_all its) ≡ its) × (codes_fit (coded_all its) ≡ true)
unfolding numbered_all coded_all codes_fit
coded-same [] k = (refl, refl)
coded-same (i ∷ its) k =
    let e = code-key_exact i.key k.0 in
    let r = coded-same its k.1 in (rw (e.0, r.0), rw e.1 r.1)

codes-count : (m : ℕ) (x : List ℕ) (j : ℕ) → length (codes_from x m j) ≡ m
unfolding codes_from
codes-count zero x j = refl
codes-count (suc m) x j = ap suc (codes-count m x (j + 1))

-- the m lists from list j on
module _ (x : List ℕ) (b : Bytes x) (k : Block x) where
  bodies_exact : (m j : ℕ) → j + m ≤ LISTS → bodies (lists_from x m j) ++ drop (start_of x (j + m)) x ≡ drop (start_of x j) x
  unfolding lists_from bodies
  bodies_exact zero j h = let z : j + 0 ≡ j = omega arith in rw z
  bodies_exact (suc m) j h =
      let s : j + suc m ≡ j + 1 + m = omega arith in
      rw (append_assoc, s, bodies_exact m (j + 1) (omega arith)) (one-bytes x b k j (omega arith))

  rows_exact :
      (m j : ℕ) → j + m ≤ LISTS →
      (counts (lists_from x m j) ≡ row_from x COUNTS_AT m j) × (sizes (lists_from x m j) ≡ row_from x SIZES_AT m j)
  unfolding lists_from counts sizes row_from
  rows_exact zero j h = (refl, refl)
  rows_exact (suc m) j h =
      let r = rows_exact m (j + 1) (omega arith) in
      (rw (one-count x b k j (omega arith), r.0), rw (one_size x b k j (omega arith), r.1))

  codes_exact :
      (m j : ℕ) → LOCK_LISTS ≤ j → j + m ≤ LISTS →
      (numbered_lists (codes_from x m j) ≡ lists_from x m j) × (code_lists_ok (codes_from x m j) ≡ true)
  unfolding codes_from numbered_lists lists_from code_lists_ok
  codes_exact zero j l h = (refl, refl)
  codes_exact (suc m) j l h =
      let r = codes_exact m (j + 1) (omega arith) (omega arith) in
      let s = coded-same (list_at x j) (code_keyed x j k l (omega arith)) in
      let o = rw (le-ltb j LOCK_LISTS l) at (one_ok_lem x b k j (omega arith)) in
      (rw (s.0, r.0), rw (s.1, s.0, o) r.1)

  lists_exact : lists_in (maps_of x) ≡ lists_from x LISTS 0
  unfolding lists_in maps_of lists_from
  lists_exact = rw (codes_exact MODIFIER_SETS LOCK_LISTS (omega arith) (omega arith)).0

  behind_exact : bodies (lists_in (maps_of x)) ≡ drop HEAD x
  unfolding start_of
  behind_exact =
      let g = bodies_exact LISTS 0 (omega arith) in
      let z : drop (start_of x LISTS) x ≡ [] = rw k.last (drop-length x) in
      rw (lists_exact, ← append-nil (bodies (lists_from x LISTS 0)), ← z) g

-- ---- the whole

flag_exact : (n : ℕ) → n ≤ 1 → pick (eqb n 1) 1 0 ≡ n
flag_exact zero h = refl
flag_exact (suc zero) h = refl
flag_exact (suc (suc n)) h = absurd (omega arith)

flag_same : (x : List ℕ) → get_or x 0 0 ≤ 1 → pick (maps_of x).has_alt_graph 1 0 ≡ get_or x 0 0
unfolding maps_of
flag_same x h = flag_exact (get_or x 0 0) h

cells_exact : (x : List ℕ) → Bytes x → HEAD ≤ length x → words (cells_in (maps_of x)) ++ drop HEAD x ≡ drop CELLS_AT x
unfolding maps_of
cells_exact x b h =
    let c = row_exact VKEYS x CELLS_AT 0 b (omega arith) in
    let e = row_exact VKEYS x CELLS_AT SCANS_FROM b (omega arith) in
    let f = row_exact PAGES x CELLS_AT PAGES_FROM b (omega arith) in
    cells-words (maps_of x) (drop HEAD x) ∙ rw (cells_row VKEYS x 0, cells_row VKEYS x SCANS_FROM, cells_row PAGES x PAGES_FROM, f, e) c

block_exact : (x : List ℕ) → Bytes x → Block x → block_of (maps_of x) ≡ x
unfolding block_of
block_exact x b k =
    let h = k.head in
    let r = rows_exact x b k LISTS 0 (omega arith) in
    let l = lists_exact x b k in
    let p : words (counts (lists_in (maps_of x))) ++ drop SIZES_AT x ≡ drop COUNTS_AT x =
    rw (l, r.0) (row_exact LISTS x COUNTS_AT 0 b (omega arith)) in
    let q : words (sizes (lists_in (maps_of x))) ++ drop CELLS_AT x ≡ drop SIZES_AT x =
    rw (l, r.1) (row_exact LISTS x SIZES_AT 0 b (omega arith)) in
    let c = cells_exact x b h in
    let d = behind_exact x b k in
    let f = flag_same x k.flag in
    let u : x ≡ get_or x 0 0 ∷ drop 1 x = drop-cons x 0 0 (omega arith) in
    let v : drop 1 x ≡ get_or x 1 0 ∷ drop COUNTS_AT x = drop-cons x 1 0 (omega arith) in
    cc

maps_ok : (x : List ℕ) → Bytes x → Block x → MapsOk (maps_of x)
unfolding maps_of table_ok
maps_ok x b k =
    let c = codes_exact x b k MODIFIER_SETS LOCK_LISTS (omega arith) (omega arith) in
    record {
      non_char_count = cells_count VKEYS x 0;
      non_char = sym (cells-every non_char_ok VKEYS x 0) ∙ k.table;
      scan_count = cells_count VKEYS x SCANS_FROM;
      scans = rw (cells_row VKEYS x SCANS_FROM) (row_words VKEYS x CELLS_AT SCANS_FROM b);
      vkey_count = cells_count PAGES x PAGES_FROM;
      vkeys = rw (cells_row PAGES x PAGES_FROM) (row_words PAGES x CELLS_AT PAGES_FROM b);
      on = one_ok_lem x b k 0 (omega arith);
      off = one_ok_lem x b k 1 (omega arith);
      modifier_sets = codes-count MODIFIER_SETS x LOCK_LISTS;
      codes = c.1;
    }

pub maps_exact : (x : List ℕ) → Bytes x → block_ok x ≡ true → MapsOk (maps_of x) × (block_of (maps_of x) ≡ x)
maps_exact x b e = let k = passed x e in (maps_ok x b k, block_exact x b k)

-- no two blocks stand for the same maps
pub one_block :
    (x y : List ℕ) → Bytes x → Bytes y → block_ok x ≡ true → block_ok y ≡ true → maps_of x ≡ maps_of y → x ≡ y
one_block x y a b d e f = sym (maps_exact x a d).1 ∙ ap block_of f ∙ (maps_exact y b e).1
