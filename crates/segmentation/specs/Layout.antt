-- A break table as bytes (docs/AREAS.md), all numbers with the low byte first: 0 (4 bytes; a later edition's form has another number there),
-- the number n of ranges (4), then by columns the first scalar value of each range (4 n), the last of each (4 n) and the kind of each (n), which
-- is the break class and 16 for a pictographic mark.
-- Assumes nothing.
use Rattle.std.specs.Prelude.{Bool, false, ◌&&◌, ◌||◌, List, [], ◌∷◌, ℕ, zero, suc, ◌+◌, ◌*◌, ◌/◌, ◌%◌, eqb, leb, ltb, length, get_or}
use Rattle.area.specs.Bytes.{num}
use Rattle.area.specs.Pick.{pick}
use Rattle.area.specs.Walk.{every}
use Rattle.text.specs.Unicode.{scalar}
use Rattle.segmentation.specs.declared.Props.{Props}
use Rattle.segmentation.specs.Classes.{CLASSES}
use Rattle.segmentation.specs.Table.{Range, Table}

-- ---- where things stand

-- the most bytes of a table
abbrev pub TABLE_MOST : ℕ
TABLE_MOST = 65536

-- the head: the form's number and the number of ranges
abbrev pub HEAD : ℕ
HEAD = 8

-- the form that this page has
abbrev pub FORM : ℕ
FORM = 0

abbrev pub form_in : List ℕ → ℕ
form_in x = num 4 0 x

abbrev pub count_in : List ℕ → ℕ
count_in x = num 4 4 x

-- two columns of four bytes and one of one
abbrev pub size_of : ℕ → ℕ
size_of n = HEAD + 9 * n

unfoldable pub first_at : List ℕ → ℕ → ℕ
first_at x i = num 4 (HEAD + 4 * i) x

unfoldable pub last_at : List ℕ → ℕ → ℕ
last_at x i = num 4 (HEAD + 4 * count_in x + 4 * i) x

unfoldable pub kind_at : List ℕ → ℕ → ℕ
kind_at x i = get_or x (HEAD + 8 * count_in x + i) 0

-- ---- the table that they stand for

abbrev pub class_of : ℕ → ℕ
class_of kind = kind % 16

abbrev pub mark_of : ℕ → ℕ
mark_of kind = kind / 16

abbrev pub props_by : ℕ → Props
props_by kind = record { class = class_of kind; pictographic = eqb (mark_of kind) 1 }

abbrev pub range_at : List ℕ → ℕ → Range
range_at x i = record { first = first_at x i; last = last_at x i; props = props_by (kind_at x i) }

-- m ranges from the i-th on
unfoldable pub segment : (ℕ → Range) → ℕ → ℕ → List Range
segment r zero i = []
segment r (suc m) i = r i ∷ segment r m (suc i)

unfoldable pub table_of : List ℕ → Table
table_of x = segment (range_at x) (count_in x) 0

-- ---- question 11 (SCOPE 6.11)

-- the last scalar value of the range before
unfoldable pub last_before : List ℕ → ℕ → ℕ
last_before x zero = 0
last_before x (suc i) = last_at x i

-- it begins behind the range before: none overlap or are out of order
unfoldable pub after_last : List ℕ → ℕ → Bool
after_last x i = eqb i 0 || ltb (last_before x i) (first_at x i)

-- it does not end before it begins, and its ends are scalar values
abbrev pub ends_ok : ℕ → ℕ → Bool
ends_ok first last = leb first last && (scalar first && scalar last)

-- its mark is 0 or 1, and its class is known
abbrev pub kind_ok : ℕ → Bool
kind_ok kind = ltb (mark_of kind) 2 && ltb (class_of kind) CLASSES

unfoldable pub ends_at : List ℕ → ℕ → Bool
ends_at x i = ends_ok (first_at x i) (last_at x i)

unfoldable pub known_at : List ℕ → ℕ → Bool
known_at x i = kind_ok (kind_at x i)

unfoldable pub range_ok : List ℕ → ℕ → Bool
range_ok x i = after_last x i && (ends_at x i && known_at x i)

unfoldable pub ranges_ok : List ℕ → Bool
ranges_ok x = every (range_ok x) (count_in x) 0

-- at most 65,536 bytes, a whole head of this form, then just the ranges that it counts, each in order
unfoldable pub table_ok : List ℕ → Bool
table_ok x =
    pick (ltb TABLE_MOST (length x)) false
    (pick (ltb (length x) HEAD) false
    (pick (eqb (form_in x) FORM) (pick (eqb (length x) (size_of (count_in x))) (ranges_ok x) false) false))
