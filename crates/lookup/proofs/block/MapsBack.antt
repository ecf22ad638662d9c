-- Every set of maps that meets the conditions, and whose block is not too long, has a block that passes question 3 and is read as these maps.
-- Assumes nothing.
use mathlib.Core.Path.{◌≡◌, refl, sym, ap, ◌∙◌}
use mathlib.Core.Bool.{Bool, true, false}
use mathlib.Core.List.{List, [], ◌∷◌, ◌++◌, append_assoc}
use Prim.Native.Nat.{ℕ, zero, suc, ◌+◌, ◌*◌, ◌≤◌, ◌<◌, ◌^◌}
use native.Mathlib.Numerals.{add-one}
use native.Mathlib.Omega.{arith}
use lib.Dec.{eqb, ltb}
use lib.ListN.{length, drop, get_or, length-append}
use lib.Seq.{drop-drop, drop_at}
use borrow.Author.Tests.{lt-ltb, le-ltb, ltb-true, eq-eqb, eqb-true}
use Rattle.area.specs.Pick.{pick}
use Rattle.area.specs.Bytes.{Bytes}
use Rattle.area.specs.Walk.{every}
use Rattle.area.proofs.Pick.{no_yes, yes_no}
use Rattle.area.proofs.Bytes.{bytes-append}
use Rattle.keys.specs.Places.{first_named, key_cases}
use Rattle.keys.specs.Key.{named_ok}
use Rattle.keys.specs.CodeKey.{code_key_ok, code_fits}
use Rattle.keys.proofs.key_code.CodeKeys.{code-key_back}
use Rattle.lookup.specs.Sizes.{BLOCK_MOST, LOCK_LISTS, MODIFIER_SETS, LISTS, VKEYS, SCANS_FROM, PAGES, PAGES_FROM, CELLS, COUNTS_AT, SIZES_AT, CELLS_AT, HEAD}
use Rattle.lookup.specs.Maps.{Item, CodeItem, Maps, MapsOk, items_ok, numbered_all, codes_fit, code_lists_ok, non_char_ok, word, cells_ok}
use Rattle.lookup.specs.Block.{count_at, size_at, start_of, list_key_ok, by_vkey, one_ok, lists_ok, table_ok, block_ok, list_at, coded_all, cells_from, codes_from, maps_of}
use Rattle.lookup.specs.Encode.{encode_items, words, bodies, counts, sizes, numbered_lists, lists_in, cells_in, block_of, entry_bytes, item_bytes}
use Rattle.lookup.proofs.block.Lists.{key_below}
use Rattle.lookup.proofs.block.Items.{encoded_length, items_back, items_bytes}
use Rattle.lookup.proofs.block.Rows.{row_from, words-length, words_append, words-bytes, row_read, cells_row, cells-every, cells_weaken}

-- ---- how long a block is

items_size : (its : List Item) → length (encode_items its) ≡ entry_bytes its
unfolding encode_items entry_bytes
items_size [] = refl
items_size (i ∷ its) = rw length-append (omega (arith, encoded_length i, items_size its))

bodies-size : (ls : List (List Item)) → length (bodies ls) ≡ item_bytes ls
unfolding bodies item_bytes
bodies-size [] = refl
bodies-size (its ∷ ls) = rw length-append (omega (arith, items_size its, bodies-size ls))

counts-length : (ls : List (List Item)) → (length (counts ls) ≡ length ls) × (length (sizes ls) ≡ length ls)
unfolding counts sizes
counts-length [] = (refl, refl)
counts-length (its ∷ ls) = let i = counts-length ls in (ap suc i.0, ap suc i.1)

numbered-length : (ks : List (List CodeItem)) → length (numbered_lists ks) ≡ length ks
unfolding numbered_lists
numbered-length [] = refl
numbered-length (its ∷ ks) = ap suc (numbered-length ks)

module _ (m : Maps) (k : MapsOk m) where
  pub lists_length : length (lists_in m) ≡ LISTS
  unfolding lists_in
  lists_length = omega (arith, numbered-length m.keys, k.modifier_sets)

  cells-length : length (cells_in m) ≡ CELLS
  unfolding cells_in
  cells-length =
      omega (arith, length-append m.non_char_keys (m.scan_codes ++ m.virtual_keys), length-append m.scan_codes m.virtual_keys, k.non_char_count, k.scan_count, k.vkey_count)

  block-length : length (block_of m) ≡ HEAD + length (bodies (lists_in m))
  unfolding block_of
  block-length =
      let n = counts-length (lists_in m) in
      let a = n.0 in
      let b = n.1 in
      simp length-append (omega (arith, words-length (counts (lists_in m)), words-length (sizes (lists_in m)), words-length (cells_in m), lists_length, cells-length))

  -- the header, and for each entry 16 bytes and its text
  pub block_size : length (block_of m) ≡ HEAD + item_bytes (lists_in m)
  block_size = block-length ∙ ap (λ (n : ℕ). HEAD + n) (bodies-size (lists_in m))

  -- SCOPE 5.2: at most 8,192 bytes and, for each list entry, 16 and its text
  pub block_most : length (block_of m) ≤ 8192 + item_bytes (lists_in m)
  block_most = omega (arith, block_size)

-- ---- the lists

-- from list j on, each is in order
abbrev pub Ready : ℕ → List (List Item) → Type 0
Ready j [] = Unit {0}
Ready j (its ∷ ls) = (items_ok (list_key_ok (by_vkey j)) 0 its ≡ true) × Ready (j + 1) ls

codes_ready : (ks : List (List CodeItem)) (j : ℕ) → 2 ≤ j → code_lists_ok ks ≡ true → Ready j (numbered_lists ks)
unfolding code_lists_ok numbered_lists
codes_ready [] j h e = tt
codes_ready (its ∷ ks) j h e =
    let a = yes_no (codes_fit its) _ e in
    let b = yes_no (items_ok code_key_ok 0 (numbered_all its)) _ a.1 in
    (rw (le-ltb j 2 h) b.0, codes_ready ks (j + 1) (omega arith) b.1)

lists_ready : (m : Maps) → MapsOk m → Ready 0 (lists_in m)
unfolding lists_in
lists_ready m k = (k.on, (k.off, codes_ready m.keys 2 (omega arith) k.codes))

bodies-bytes : (ls : List (List Item)) (j : ℕ) → Ready j ls → Bytes (bodies ls)
unfolding bodies
bodies-bytes [] j r = tt
bodies-bytes (its ∷ ls) j r =
    bytes-append (encode_items its) (bodies ls) (items_bytes (list_key_ok (by_vkey j)) its 0 r.0) (bodies-bytes ls (j + 1) r.1)

-- a block is bytes
pub block-bytes : (m : Maps) → MapsOk m → Bytes (block_of m)
unfolding block_of
block-bytes m k = (flag-byte m.has_alt_graph, (omega arith, rows))
  where
    flag-byte : (b : Bool) → pick b 1 0 < 256
    flag-byte true = omega arith
    flag-byte false = omega arith

    rows : Bytes (words (counts (lists_in m)) ++ (words (sizes (lists_in m)) ++ (words (cells_in m) ++ bodies (lists_in m))))
    rows =
        bytes-append (words (counts (lists_in m))) _ (words-bytes (counts (lists_in m)))
        (bytes-append (words (sizes (lists_in m))) _ (words-bytes (sizes (lists_in m)))
        (bytes-append (words (cells_in m)) _ (words-bytes (cells_in m)) (bodies-bytes (lists_in m) 0 (lists_ready m k))))

items_length : (its : List Item) → length its ≤ length (encode_items its)
unfolding encode_items
items_length [] = omega arith
items_length (i ∷ its) = rw length-append (omega (arith, encoded_length i, items_length its))

-- what the header says of the lists fits into two bytes
counts-words :
    (ls : List (List Item)) → length (bodies ls) < 2 ^ 16 →
    (cells_ok word (counts ls) ≡ true) × (cells_ok word (sizes ls) ≡ true)
unfolding counts sizes bodies cells_ok
counts-words [] h = (refl, refl)
counts-words (its ∷ ls) h =
    let a : length (encode_items its) + length (bodies ls) < 2 ^ 16 = rw length-append at h in
    let b = items_length its in
    let i = counts-words ls (omega arith) in
    (rw (lt-ltb (length its) (2 ^ 16) (omega arith)) i.0, rw (lt-ltb (length (encode_items its)) (2 ^ 16) (omega arith)) i.1)

-- the m lists from list j on
unfoldable pub lists_from : List ℕ → ℕ → ℕ → List (List Item)
lists_from x zero j = []
lists_from x (suc m) j = list_at x j ∷ lists_from x m (j + 1)

pub record Passes (x : List ℕ) (j s : ℕ) (ls : List (List Item)) : Type 0 where
  pub each : every (one_ok x) (length ls) j ≡ true
  pub lists : lists_from x (length ls) j ≡ ls
  pub last : start_of x (j + length ls) ≡ s + length (bodies ls)

passes :
    (ls : List (List Item)) (x : List ℕ) (j s : ℕ) → Ready j ls → row_from x 2 (length ls) j ≡ counts ls →
    row_from x SIZES_AT (length ls) j ≡ sizes ls → start_of x j ≡ s → drop s x ≡ bodies ls → Passes x j s ls
unfolding row_from counts sizes every one_ok lists_from list_at start_of bodies
passes [] x j s r c z e d =
    record { each = refl; lists = refl; last = let o : j + 0 ≡ j = omega arith in rw (o, e) (omega arith) }
passes (its ∷ ls) x j s r c z e d =
    let n : count_at x j ≡ length its = cc in
    let w : size_at x j ≡ length (encode_items its) = cc in
    let b = items_back (list_key_ok (by_vkey j)) (key_below (by_vkey j)) its 0 (bodies ls) r.0 in
    let f : start_of x (j + 1) ≡ s + size_at x j = rw (add-one, e) in
    let g : drop (s + size_at x j) x ≡ bodies ls =
    sym (drop-drop (size_at x j) s x) ∙ rw d (drop_at (encode_items its) (bodies ls) (size_at x j) (sym w)) in
    let m = passes ls x (j + 1) (s + size_at x j) r.1 (cc) (cc) f g in
    let o : j + suc (length ls) ≡ j + 1 + length ls = omega arith in
    record {
      each = rw (e, d, n, b.ok, b.used, w, eq-eqb (length (encode_items its)) (length (encode_items its)) refl) m.each;
      lists = rw (e, d, n, b.items, m.lists);
      last = rw (o, m.last, length-append) (omega arith);
    }

-- stated over any elements: with key codes in sight, `cc` takes a minute
same_heads : {A : Type 0} (a b : A) (r s : List A) → a ∷ r ≡ b ∷ s → (a ≡ b) × (r ≡ s)
same_heads a b r s e = (cc, cc)

codes_same : (its : List CodeItem) → codes_fit its ≡ true → coded_all (numbered_all its) ≡ its
unfolding codes_fit coded_all numbered_all
codes_same [] e = refl
codes_same (i ∷ its) e =
    let t = yes_no (code_fits i.code) _ e in rw ((code-key_back i.code t.0).1, codes_same its t.1)

-- lists that are those of key codes, by number, are read as these
codes_back :
    (ks : List (List CodeItem)) (x : List ℕ) (j : ℕ) → code_lists_ok ks ≡ true →
    lists_from x (length ks) j ≡ numbered_lists ks → codes_from x (length ks) j ≡ ks
unfolding code_lists_ok lists_from numbered_lists codes_from
codes_back [] x j o e = refl
codes_back (its ∷ ks) x j o e =
    let a = yes_no (codes_fit its) _ o in
    let b = yes_no (items_ok code_key_ok 0 (numbered_all its)) _ a.1 in
    let f = same_heads (list_at x j) (numbered_all its) (lists_from x (length ks) (j + 1)) (numbered_lists ks) e in
    rw (f.0, codes_same its a.0, codes_back ks x (j + 1) b.1 f.1)

-- ---- the whole

non_char-word : (v : ℕ) → non_char_ok v ≡ true → word v ≡ true
unfolding named_ok
non_char-word v e = go (eqb v 0) refl e
  where
    go : (b : Bool) → eqb v 0 ≡ b → pick b true (named_ok v) ≡ true → word v ≡ true
    go true q f = rw (eqb-true v 0 q)
    go false q f =
        let h = ltb-true v key_cases (no_yes (ltb v first_named) _ f).1 in lt-ltb v (2 ^ 16) (omega arith)

-- what the header of the maps' block gives, and what stands behind it
record Header (m : Maps) (x : List ℕ) : Type 0 where
  counted : row_from x 2 (length (lists_in m)) 0 ≡ counts (lists_in m)
  sized : row_from x SIZES_AT (length (lists_in m)) 0 ≡ sizes (lists_in m)
  non_char : cells_from x VKEYS 0 ≡ m.non_char_keys
  scans : cells_from x VKEYS SCANS_FROM ≡ m.scan_codes
  vkeys : cells_from x PAGES PAGES_FROM ≡ m.virtual_keys
  behind : drop HEAD x ≡ bodies (lists_in m)

pub cells-words : (m : Maps) (r : List ℕ) → words (cells_in m) ++ r ≡ words m.non_char_keys ++ (words m.scan_codes ++ (words m.virtual_keys ++ r))
unfolding cells_in
cells-words m r = rw (words_append m.non_char_keys (m.scan_codes ++ m.virtual_keys), words_append m.scan_codes m.virtual_keys) (simp append_assoc)

module _ (m : Maps) (k : MapsOk m) (x : List ℕ) where
  header :
      length (bodies (lists_in m)) < 2 ^ 16 →
      drop 2 x ≡ words (counts (lists_in m)) ++ (words (sizes (lists_in m)) ++ (words (cells_in m) ++ bodies (lists_in m))) →
      Header m x
  header h d =
      let w = counts-words (lists_in m) h in
      let n = counts-length (lists_in m) in
      let l = lists_length m k in
      let a = row_read (counts (lists_in m)) x COUNTS_AT 0 (length (lists_in m)) SIZES_AT _ n.0 (omega arith) w.0 d in
      let b = row_read (sizes (lists_in m)) x SIZES_AT 0 (length (lists_in m)) CELLS_AT _ n.1 (omega arith) w.1 a.1 in
      let t = b.1 ∙ cells-words m (bodies (lists_in m)) in
      let c = row_read m.non_char_keys x CELLS_AT 0 VKEYS (CELLS_AT + 2 * SCANS_FROM) _ k.non_char_count refl (cells_weaken non_char_ok word non_char-word m.non_char_keys k.non_char) t in
      let e = row_read m.scan_codes x CELLS_AT SCANS_FROM VKEYS (CELLS_AT + 2 * PAGES_FROM) _ k.scan_count refl k.scans c.1 in
      let f = row_read m.virtual_keys x CELLS_AT PAGES_FROM PAGES HEAD _ k.vkey_count refl k.vkeys e.1 in
      record {
        counted = a.0;
        sized = b.0;
        non_char = cells_row VKEYS x 0 ∙ c.0;
        scans = cells_row VKEYS x SCANS_FROM ∙ e.0;
        vkeys = cells_row PAGES x PAGES_FROM ∙ f.0;
        behind = f.1;
      }

heads :
    (m : Maps) →
    (get_or (block_of m) 0 0 ≡ pick m.has_alt_graph 1 0)
    × (get_or (block_of m) 1 0 ≡ 0)
    × (drop 2 (block_of m) ≡ words (counts (lists_in m)) ++ (words (sizes (lists_in m)) ++ (words (cells_in m) ++ bodies (lists_in m))))
unfolding block_of
heads m = (refl, refl, refl)

flag_back : (b : Bool) (n : ℕ) → n ≡ pick b 1 0 → (n ≤ 1) × (eqb n 1 ≡ b)
flag_back true n e = rw e (omega arith, refl)
flag_back false n e = rw e (omega arith, refl)

start_first : (x : List ℕ) → start_of x 0 ≡ HEAD
unfolding start_of
start_first x = refl

-- the eighteen lists by their names
lists_apart :
    (m : Maps) (x : List ℕ) → lists_from x (length (lists_in m)) 0 ≡ lists_in m →
    (list_at x 0 ≡ m.num_lock_on) × (list_at x 1 ≡ m.num_lock_off) × (lists_from x (length m.keys) 2 ≡ numbered_lists m.keys)
unfolding lists_from lists_in
lists_apart m x e =
    let ks = numbered_lists m.keys in
    let f = same_heads (list_at x 0) m.num_lock_on (list_at x 1 ∷ lists_from x (length ks) 2) (m.num_lock_off ∷ ks) e in
    let g = same_heads (list_at x 1) m.num_lock_off (lists_from x (length ks) 2) ks f.1 in
    (f.0, g.0, rw (← numbered-length m.keys) g.1)

block_yes :
    (x : List ℕ) → length x ≤ BLOCK_MOST → HEAD ≤ length x → get_or x 0 0 ≤ 1 → get_or x 1 0 ≡ 0 → table_ok x ≡ true →
    every (one_ok x) LISTS 0 ≡ true → start_of x LISTS ≡ length x → block_ok x ≡ true
unfolding block_ok lists_ok
block_yes x a b c d t e l =
    rw (le-ltb BLOCK_MOST (length x) a, le-ltb (length x) HEAD b, le-ltb 1 (get_or x 0 0) c, eq-eqb (get_or x 1 0) 0 d, t, e, eq-eqb (start_of x LISTS) (length x) l)

maps_eq :
    (m : Maps) (x : List ℕ) → eqb (get_or x 0 0) 1 ≡ m.has_alt_graph → Header m x → list_at x 0 ≡ m.num_lock_on →
    list_at x 1 ≡ m.num_lock_off → codes_from x MODIFIER_SETS LOCK_LISTS ≡ m.keys → maps_of x ≡ m
unfolding maps_of
maps_eq m x a h b c d = rw (a, h.non_char, h.scans, h.vkeys, b, c, d)

table_yes : (m : Maps) (x : List ℕ) → MapsOk m → Header m x → table_ok x ≡ true
unfolding table_ok
table_yes m x k h = cells-every non_char_ok VKEYS x 0 ∙ rw h.non_char k.non_char

pub maps_back :
    (m : Maps) → MapsOk m → length (block_of m) ≤ BLOCK_MOST → (block_ok (block_of m) ≡ true) × (maps_of (block_of m) ≡ m)
maps_back m k h =
    let l = block-length m k in
    let f = heads m in
    let g = flag_back m.has_alt_graph (get_or (block_of m) 0 0) f.0 in
    let r = header m k (block_of m) (omega arith) f.2 in
    let p = passes (lists_in m) (block_of m) 0 HEAD (lists_ready m k) r.counted r.sized (start_first (block_of m)) r.behind in
    let a = lists_apart m (block_of m) p.lists in
    let n = lists_length m k in
    let c = codes_back m.keys (block_of m) 2 k.codes a.2 in
    let e = rw n at p.each in
    let z : LISTS ≡ 0 + length (lists_in m) = omega arith in
    let t : start_of (block_of m) LISTS ≡ length (block_of m) =
    ap (λ (i : ℕ). start_of (block_of m) i) z ∙ p.last ∙ sym l in (
      block_yes (block_of m) h (omega arith) g.0 f.1 (table_yes m (block_of m) k r) e t,
      maps_eq m (block_of m) g.1 r a.0 a.1 (rw k.modifier_sets at c),
    )
