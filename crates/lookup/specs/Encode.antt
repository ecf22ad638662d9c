-- The one block of a set of maps.
-- Assumes nothing.
use Rattle.std.specs.Prelude.{ℕ, ◌+◌, List, [], ◌∷◌, ◌++◌, length}
use Rattle.area.specs.Pick.{pick}
use Rattle.area.specs.Bytes.{le}
use Rattle.keys.specs.Key.{key_number, key_aux, key_value}
use Rattle.keys.specs.Text.{bare_of, text_in}
use Rattle.lookup.specs.Sizes.{ENTRY_HEAD}
use Rattle.lookup.specs.Maps.{Item, CodeItem, Maps, numbered_all}

-- the sixteen bytes of an entry, and its text
unfoldable pub put : ℕ → ℕ → ℕ → ℕ → List ℕ → List ℕ
put key number aux val text = le 8 key ++ (le 2 number ++ (aux ∷ length text ∷ (le 4 val ++ text)))

unfoldable pub encode_item : Item → List ℕ
encode_item i =
    put i.key (key_number (bare_of i.value)) (key_aux (bare_of i.value)) (key_value (bare_of i.value)) (text_in i.value)

unfoldable pub encode_items : List Item → List ℕ
encode_items [] = []
encode_items (i ∷ r) = encode_item i ++ encode_items r

-- numbers of two bytes, one behind the other
unfoldable pub words : List ℕ → List ℕ
words [] = []
words (v ∷ r) = le 2 v ++ words r

unfoldable pub bodies : List (List Item) → List ℕ
bodies [] = []
bodies (its ∷ r) = encode_items its ++ bodies r

unfoldable pub counts : List (List Item) → List ℕ
counts [] = []
counts (its ∷ r) = length its ∷ counts r

unfoldable pub sizes : List (List Item) → List ℕ
sizes [] = []
sizes (its ∷ r) = length (encode_items its) ∷ sizes r

unfoldable pub numbered_lists : List (List CodeItem) → List (List Item)
numbered_lists [] = []
numbered_lists (its ∷ r) = numbered_all its ∷ numbered_lists r

-- all eighteen lists
unfoldable pub lists_in : Maps → List (List Item)
lists_in m = m.num_lock_on ∷ m.num_lock_off ∷ numbered_lists m.keys

-- all cells of the tables
unfoldable pub cells_in : Maps → List ℕ
cells_in m = m.non_char_keys ++ (m.scan_codes ++ m.virtual_keys)

unfoldable pub block_of : Maps → List ℕ
block_of m =
    pick m.has_alt_graph 1 0 ∷ 0 ∷ (words (counts (lists_in m)) ++ (words (sizes (lists_in m)) ++ (words (cells_in m) ++ bodies (lists_in m))))

-- SCOPE 5.2: for each list entry, 16 and its text
unfoldable pub entry_bytes : List Item → ℕ
entry_bytes [] = 0
entry_bytes (i ∷ r) = ENTRY_HEAD + length (text_in i.value) + entry_bytes r

unfoldable pub item_bytes : List (List Item) → ℕ
item_bytes [] = 0
item_bytes (its ∷ r) = entry_bytes its + item_bytes r
