-- The maps of a keyboard layout, as tao's Layout has them (SCOPE 5.2), and what question 3 asks of them (SCOPE 6.3).
-- Assumes nothing.
use Rattle.std.specs.Prelude.{◌≡◌, ℕ, zero, suc, ◌+◌, ◌^◌, Bool, true, false, List, [], ◌∷◌, eqb, ltb, leb, length, Option, Some, None}
use Rattle.area.specs.Pick.{pick}
use Rattle.text.specs.Unicode.{well_formed}
use Rattle.keys.specs.Key.{key_number, key_fits, named_ok}
use Rattle.keys.specs.Text.{FullKey, bare_of, text_in}
use Rattle.keys.specs.declared.key_code.KeyCode.{KeyCode}
use Rattle.keys.specs.CodeKey.{code_key, code_key_ok, code_fits}
use Rattle.lookup.specs.Sizes.{MODIFIER_SETS, VKEYS, PAGES, ENTRY_TEXT_MOST}

-- an entry of numlock_on_keys and numlock_off_keys: HashMap<u16, Key>
pub record Item : Type 0 where
  pub key : ℕ
  pub value : FullKey

-- an entry of keys' inner maps: HashMap<KeyCode, Key>
pub record CodeItem : Type 0 where
  pub code : KeyCode
  pub value : FullKey

pub record Maps : Type 0 where
  -- has_alt_graph
  pub has_alt_graph : Bool
  -- vkey_to_non_char_key of the virtual keys 00 to FF: a named key's place in Key, or 0 for unidentified
  pub non_char_keys : List ℕ
  -- MapVirtualKeyExW from the virtual keys 00 to FF to scan codes
  pub scan_codes : List ℕ
  -- MapVirtualKeyExW from the scan codes of pages 00, E0 and E1 to virtual keys, page after page
  pub virtual_keys : List ℕ
  pub num_lock_on : List Item
  pub num_lock_off : List Item
  -- keys, at each set of modifiers by its bits: Shift 1, Control 2, Alt 4, Caps Lock 8
  pub keys : List (List CodeItem)

-- ---- what a map gives

-- HashMap::get of a Num Lock list
unfoldable pub find : ℕ → List Item → Option FullKey
find key [] = None
find key (i ∷ r) = pick (eqb i.key key) (Some i.value) (find key r)

-- HashMap::get of a list by key codes, which are told apart by their numbers
unfoldable pub find_code : KeyCode → List CodeItem → Option FullKey
find_code code [] = None
find_code code (i ∷ r) = pick (eqb (code_key i.code) (code_key code)) (Some i.value) (find_code code r)

-- the list at a place; none where there is no such place
unfoldable pub list_for : ℕ → List (List CodeItem) → List CodeItem
list_for n [] = []
list_for zero (l ∷ ls) = l
list_for (suc n) (l ∷ ls) = list_for n ls

-- ---- the conditions

-- SCOPE 6.3: texts of 1 to 24 bytes; a character (number 0) has a text, another key has none
unfoldable pub len_ok : ℕ → ℕ → Bool
len_ok number len = pick (eqb number 0) (pick (eqb len 0) false (leb len ENTRY_TEXT_MOST)) (eqb len 0)

-- SCOPE 6.3: key numbers in range, dead characters scalar values, texts UTF-8 of 1 to 24 bytes
unfoldable pub value_ok : FullKey → Bool
value_ok f =
    pick (key_fits (bare_of f)) (pick (len_ok (key_number (bare_of f)) (length (text_in f))) (well_formed (text_in f)) false) false

-- an entry whose key passes p and is at least lo
unfoldable pub item_ok : (ℕ → Bool) → ℕ → Item → Bool
item_ok p lo i = pick (ltb i.key lo) false (pick (p i.key) (value_ok i.value) false)

-- SCOPE 6.3: lists strictly ascending
unfoldable pub items_ok : (ℕ → Bool) → ℕ → List Item → Bool
items_ok p lo [] = true
items_ok p lo (i ∷ r) = pick (item_ok p lo i) (items_ok p (i.key + 1) r) false

-- the Num Lock lists have virtual keys 00 to FF, the others key codes, by the number of the code
abbrev pub vkey_ok : ℕ → Bool
vkey_ok k = ltb k VKEYS

abbrev pub numbered : CodeItem → Item
numbered i = record { key = code_key i.code; value = i.value }

unfoldable pub numbered_all : List CodeItem → List Item
numbered_all [] = []
numbered_all (i ∷ r) = numbered i ∷ numbered_all r

unfoldable pub codes_fit : List CodeItem → Bool
codes_fit [] = true
codes_fit (i ∷ r) = pick (code_fits i.code) (codes_fit r) false

unfoldable pub code_lists_ok : List (List CodeItem) → Bool
code_lists_ok [] = true
code_lists_ok (its ∷ r) =
    pick (codes_fit its) (pick (items_ok code_key_ok 0 (numbered_all its)) (code_lists_ok r) false) false

abbrev pub non_char_ok : ℕ → Bool
non_char_ok n = pick (eqb n 0) true (named_ok n)

abbrev pub word : ℕ → Bool
word n = ltb n (2 ^ 16)

unfoldable pub cells_ok : (ℕ → Bool) → List ℕ → Bool
cells_ok p [] = true
cells_ok p (v ∷ r) = pick (p v) (cells_ok p r) false

-- the sets of maps that a block stands for, but for its size
pub record MapsOk (m : Maps) : Type 0 where
  pub non_char_count : length m.non_char_keys ≡ VKEYS
  pub non_char : cells_ok non_char_ok m.non_char_keys ≡ true
  pub scan_count : length m.scan_codes ≡ VKEYS
  pub scans : cells_ok word m.scan_codes ≡ true
  pub vkey_count : length m.virtual_keys ≡ PAGES
  pub vkeys : cells_ok word m.virtual_keys ≡ true
  pub on : items_ok vkey_ok 0 m.num_lock_on ≡ true
  pub off : items_ok vkey_ok 0 m.num_lock_off ≡ true
  pub modifier_sets : length m.keys ≡ MODIFIER_SETS
  pub codes : code_lists_ok m.keys ≡ true
