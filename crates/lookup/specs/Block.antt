-- The layout block: when bytes are one (question 3), and the maps that they stand for. docs/AREAS.md has the same in words.
-- Assumes nothing.
use Rattle.std.specs.Prelude.{ℕ, zero, suc, ◌+◌, ◌-◌, ◌*◌, Bool, true, false, List, [], ◌∷◌, Option, Some, None, eqb, ltb, length, take, drop, get_or}
use Rattle.std.specs.Option.{option_or}
use Rattle.area.specs.Pick.{pick}
use Rattle.area.specs.Bytes.{num}
use Rattle.area.specs.Walk.{every}
use Rattle.text.specs.Unicode.{well_formed}
use Rattle.keys.specs.Key.{key_at, key_ok}
use Rattle.keys.specs.Text.{full}
use Rattle.keys.specs.CodeKey.{code_key_ok, code_of_key}
use Rattle.lookup.specs.Sizes.{BLOCK_MOST, LOCK_LISTS, MODIFIER_SETS, LISTS, VKEYS, SCANS_FROM, PAGES, PAGES_FROM, COUNTS_AT, SIZES_AT, CELLS_AT, HEAD, ENTRY_HEAD}
use Rattle.lookup.specs.Maps.{Item, CodeItem, Maps, len_ok, vkey_ok, non_char_ok}

-- ---- 1. An entry, at the head of the bytes l: key, place in Key, what an unidentified or dead key holds, length, then its text.

abbrev pub key_of : List ℕ → ℕ
key_of l = num 8 0 l

abbrev pub number_of : List ℕ → ℕ
number_of l = num 2 8 l

abbrev pub aux_of : List ℕ → ℕ
aux_of l = get_or l 10 0

abbrev pub len_of : List ℕ → ℕ
len_of l = get_or l 11 0

abbrev pub val_of : List ℕ → ℕ
val_of l = num 4 12 l

abbrev pub entry_text : List ℕ → List ℕ
entry_text l = take (len_of l) (drop ENTRY_HEAD l)

abbrev pub next_of : List ℕ → List ℕ
next_of l = drop (ENTRY_HEAD + len_of l) l

-- whether an entry whose key passes p and is at least lo stands at the head of l
unfoldable pub entry_ok : (ℕ → Bool) → ℕ → List ℕ → Bool
entry_ok p lo l =
    pick (ltb (length l) ENTRY_HEAD) false
    (pick (ltb (key_of l) lo) false
    (pick (p (key_of l))
    (pick (key_ok (number_of l) (aux_of l) (val_of l))
    (pick (len_ok (number_of l) (len_of l)) (pick (ltb (length l - ENTRY_HEAD) (len_of l)) false (well_formed (entry_text l))) false) false)
    false))

unfoldable pub item_of : List ℕ → Item
item_of l = record { key = key_of l; value = full (key_at (number_of l) (aux_of l) (val_of l)) (entry_text l) }

-- ---- 2. n entries, one behind the other, with keys strictly ascending from lo on.

unfoldable pub list_ok : (ℕ → Bool) → ℕ → ℕ → List ℕ → Bool
list_ok p zero lo l = true
list_ok p (suc n) lo l = pick (entry_ok p lo l) (list_ok p n (key_of l + 1) (next_of l)) false

-- the bytes that they take
unfoldable pub used_of : ℕ → List ℕ → ℕ
used_of zero l = 0
used_of (suc n) l = ENTRY_HEAD + len_of l + used_of n (next_of l)

unfoldable pub items_of : ℕ → List ℕ → List Item
items_of zero l = []
items_of (suc n) l = item_of l ∷ items_of n (next_of l)

-- ---- 3. The block: flag, a zero, for each list its number of entries and then its bytes, the tables, the lists.

abbrev pub count_at : List ℕ → ℕ → ℕ
count_at x j = num 2 (COUNTS_AT + 2 * j) x

abbrev pub size_at : List ℕ → ℕ → ℕ
size_at x j = num 2 (SIZES_AT + 2 * j) x

abbrev pub cell_at : List ℕ → ℕ → ℕ
cell_at x i = num 2 (CELLS_AT + 2 * i) x

-- where list j starts: behind the lists before it
unfoldable pub start_of : List ℕ → ℕ → ℕ
start_of x zero = HEAD
start_of x (suc j) = start_of x j + size_at x j

-- a list is keyed by virtual keys or by key codes
abbrev pub list_key_ok : Bool → ℕ → Bool
list_key_ok by_vkey k = pick by_vkey (vkey_ok k) (code_key_ok k)

-- the first two are keyed by virtual keys
abbrev pub by_vkey : ℕ → Bool
by_vkey j = ltb j LOCK_LISTS

unfoldable pub one_ok : List ℕ → ℕ → Bool
one_ok x j =
    pick (list_ok (list_key_ok (by_vkey j)) (count_at x j) 0 (drop (start_of x j) x))
    (eqb (used_of (count_at x j) (drop (start_of x j) x)) (size_at x j)) false

-- the lists are in order, and nothing stands behind them
unfoldable pub lists_ok : List ℕ → Bool
lists_ok x = pick (every (one_ok x) LISTS 0) (eqb (start_of x LISTS) (length x)) false

unfoldable pub table_ok : List ℕ → Bool
table_ok x = every (λ i. non_char_ok (cell_at x i)) VKEYS 0

-- SCOPE 6.3
unfoldable pub block_ok : List ℕ → Bool
block_ok x =
    pick (ltb BLOCK_MOST (length x)) false
    (pick (ltb (length x) HEAD) false
    (pick (ltb 1 (get_or x 0 0)) false (pick (eqb (get_or x 1 0) 0) (pick (table_ok x) (lists_ok x) false) false)))

-- ---- 4. The maps.

unfoldable pub list_at : List ℕ → ℕ → List Item
list_at x j = items_of (count_at x j) (drop (start_of x j) x)

abbrev pub coded : Item → CodeItem
coded i = record { code = code_of_key i.key; value = i.value }

unfoldable pub coded_all : List Item → List CodeItem
coded_all [] = []
coded_all (i ∷ r) = coded i ∷ coded_all r

-- the m cells from cell i on
unfoldable pub cells_from : List ℕ → ℕ → ℕ → List ℕ
cells_from x zero i = []
cells_from x (suc m) i = cell_at x i ∷ cells_from x m (i + 1)

-- the m lists from list j on, keyed by key codes
unfoldable pub codes_from : List ℕ → ℕ → ℕ → List (List CodeItem)
codes_from x zero j = []
codes_from x (suc m) j = coded_all (list_at x j) ∷ codes_from x m (j + 1)

unfoldable pub maps_of : List ℕ → Maps
maps_of x =
    record {
      has_alt_graph = eqb (get_or x 0 0) 1;
      non_char_keys = cells_from x VKEYS 0;
      scan_codes = cells_from x VKEYS SCANS_FROM;
      virtual_keys = cells_from x PAGES PAGES_FROM;
      num_lock_on = list_at x 0;
      num_lock_off = list_at x 1;
      keys = codes_from x MODIFIER_SETS LOCK_LISTS;
    }

-- ---- 5. What the code finds in it.

-- a cell's number; 0 stands for none
abbrev pub nonzero : ℕ → Option ℕ
nonzero n = pick (eqb n 0) None (Some n)

-- where the entry with a key stands, of n that start at place `at`
unfoldable pub place_of : ℕ → ℕ → List ℕ → ℕ → Option ℕ
place_of zero key l at = None
place_of (suc n) key l at = pick (eqb (key_of l) key) (Some at) (place_of n key (next_of l) (at + (ENTRY_HEAD + len_of l)))

-- the same in list j
unfoldable pub place_in_list : List ℕ → ℕ → ℕ → Option ℕ
place_in_list x j key = place_of (count_at x j) key (drop (start_of x j) x) (start_of x j)

-- where the entry of a key stands: in the Num Lock list, else in the list of the modifiers
abbrev pub place_for : List ℕ → ℕ → Bool → ℕ → ℕ → Option ℕ
place_for x mods num_lock vkey key =
    option_or (place_in_list x (pick num_lock 0 1) vkey) (place_in_list x (LOCK_LISTS + mods) key)
