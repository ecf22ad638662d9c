-- Worked values, computed: texts at the places where the rules are easily misread, and tables that question 11 takes and refuses.
-- Assumes nothing.
use mathlib.Core.Bool.{Bool, true, false, not, ◌&&◌}
use mathlib.Core.List.{List, [], ◌∷◌, ◌++◌}
use Prim.Native.Nat.{ℕ, ◌+◌}
use lib.Dec.{T, eqb}
use lib.ListN.{length}
use Rattle.area.specs.Bytes.{le, num}
use Rattle.area.specs.Walk.{every}
use Rattle.text.specs.Unicode.{scalar}
use Rattle.segmentation.specs.Classes.{Other, CR, LF, Control, Extend, ZWJ, RI, Prepend, SpacingMark, HL, HV, HT, HLV, HLVT, CLASSES}
use Rattle.segmentation.specs.Rules.{pictograph, joiner, indicators, break_at, breaks_after, pieces}
use Rattle.segmentation.specs.Table.{props_in, props_of, pieces_of}
use Rattle.segmentation.specs.Layout.{FORM, segment, table_of, first_at, last_at, kind_at, last_before, after_last, ends_at, known_at, range_ok, ranges_ok, table_ok}

-- ---- the bytes of a table, from its ranges: first, last and kind of each
abbrev Raw : Type 0
Raw = ℕ × ℕ × ℕ

firsts : List Raw → List ℕ
firsts [] = []
firsts (r ∷ rs) = le 4 r.0 ++ firsts rs

lasts : List Raw → List ℕ
lasts [] = []
lasts (r ∷ rs) = le 4 r.1 ++ lasts rs

kinds : List Raw → List ℕ
kinds [] = []
kinds (r ∷ rs) = r.2 ∷ kinds rs

columns : List Raw → List ℕ
columns rs = firsts rs ++ lasts rs ++ kinds rs

bytes : List Raw → List ℕ
bytes rs = le 4 FORM ++ le 4 (length rs) ++ columns rs

-- the mark, beside a class
abbrev marked : ℕ → ℕ
marked class = 16 + class

-- some of Unicode's classes; 01 and 02 have what a free table may give them
some_ranges : List Raw
some_ranges =
    (0x01, 0x01, marked Extend)
    ∷ (0x02, 0x02, marked Control)
    ∷ (0x0A, 0x0A, LF)
    ∷ (0x0D, 0x0D, CR)
    ∷ (0x300, 0x36F, Extend)
    ∷ (0x600, 0x605, Prepend)
    ∷ (0x903, 0x903, SpacingMark)
    ∷ (0x94D, 0x94D, Extend)
    ∷ (0x1100, 0x115F, HL)
    ∷ (0x1160, 0x11A7, HV)
    ∷ (0x11A8, 0x11FF, HT)
    ∷ (0x200D, 0x200D, ZWJ)
    ∷ (0xAC00, 0xAC00, HLV)
    ∷ (0xAC01, 0xAC1B, HLVT)
    ∷ (0x1F1E6, 0x1F1FF, RI)
    ∷ (0x1F3FB, 0x1F3FF, Extend)
    ∷ (0x1F466, 0x1F469, marked Other)
    ∷ []

-- ---- texts: the ranges of a table, scalar values, and how many pieces they have
texts : List (List Raw × List ℕ × ℕ)
texts =
    (some_ranges, [], 0)
    ∷ (some_ranges, 0x61 ∷ [], 1)
    ∷ (some_ranges, 0x61 ∷ 0x62 ∷ [], 2)
    ∷ (some_ranges, 0x0D ∷ 0x0A ∷ [], 1)
    -- classes come from the table alone
    ∷ ([], 0x0D ∷ 0x0A ∷ [], 2)
    ∷ (some_ranges, 0x0A ∷ 0x0D ∷ [], 2)
    -- GB4 before GB9
    ∷ (some_ranges, 0x0D ∷ 0x0A ∷ 0x301 ∷ [], 2)
    ∷ (some_ranges, 0x65 ∷ 0x301 ∷ [], 1)
    ∷ (some_ranges, 0x600 ∷ 0x61 ∷ 0x903 ∷ [], 1)
    -- GB5 before GB9b
    ∷ (some_ranges, 0x600 ∷ 0x0A ∷ [], 2)
    -- Hangul syllables
    ∷ (some_ranges, 0x1100 ∷ 0x1161 ∷ 0x11A8 ∷ [], 1)
    ∷ (some_ranges, 0x1100 ∷ 0xAC01 ∷ 0x11A8 ∷ [], 1)
    ∷ (some_ranges, 0xAC01 ∷ 0x1160 ∷ [], 2)
    -- a conjunct: no rule before edition 15.1 joins it
    ∷ (some_ranges, 0x915 ∷ 0x94D ∷ 0x937 ∷ [], 2)
    ∷ (some_ranges, 0x1F468 ∷ 0x200D ∷ 0x1F469 ∷ [], 1)
    ∷ (some_ranges, 0x1F466 ∷ 0x1F3FB ∷ 0x200D ∷ 0x1F469 ∷ [], 1)
    -- an Extend may be a pictograph itself
    ∷ (some_ranges, 0x01 ∷ 0x200D ∷ 0x1F466 ∷ [], 1)
    -- the left side is read across a break
    ∷ (some_ranges, 0x02 ∷ 0x200D ∷ 0x1F466 ∷ [], 2)
    -- ZWJ is not among Extend*
    ∷ (some_ranges, 0x1F466 ∷ 0x200D ∷ 0x200D ∷ 0x1F466 ∷ [], 2)
    -- a flag and a half; two flags and a half; only those directly before count
    ∷ (some_ranges, 0x1F1E6 ∷ 0x1F1E7 ∷ 0x1F1E8 ∷ [], 2)
    ∷ (some_ranges, 0x1F1E6 ∷ 0x1F1E7 ∷ 0x1F1E8 ∷ 0x1F1E9 ∷ 0x1F1EA ∷ [], 3)
    ∷ (some_ranges, 0x1F1E6 ∷ 0x0A ∷ 0x1F1E6 ∷ 0x1F1E7 ∷ [], 3)
    ∷ []

texts-right : List (List Raw × List ℕ × ℕ) → Bool
texts-right [] = true
texts-right (r ∷ rs) = eqb (pieces_of (table_of (bytes r.0)) r.1) r.2 && texts-right rs

texts_hold : T (texts-right texts)
unfolding texts-right texts some_ranges bytes columns firsts lasts kinds le num first_at last_at kind_at segment table_of pieces_of props_of props_in pieces breaks_after break_at pictograph joiner indicators
texts_hold = tt

-- ---- tables: their bytes, and whether question 11 takes them
tables : List (List ℕ × Bool)
tables =
    (bytes [], true)
    ∷ (bytes some_ranges, true)
    -- no bytes; a head that is not whole; another form
    ∷ ([], false)
    ∷ (0 ∷ 0 ∷ 0 ∷ 0 ∷ 0 ∷ 0 ∷ 0 ∷ [], false)
    ∷ (le 4 1 ++ le 4 0, false)
    -- a byte more than the ranges have; one less; one range more than is counted
    ∷ (bytes [] ++ (0 ∷ []), false)
    ∷ (le 4 FORM ++ le 4 1 ++ le 4 5 ++ le 4 5, false)
    ∷ (le 4 FORM ++ le 4 1 ++ columns ((5, 5, CR) ∷ (6, 6, CR) ∷ []), false)
    -- side by side; two that touch at one scalar value; out of order; one that ends before it begins
    ∷ (bytes ((5, 6, CR) ∷ (7, 7, CR) ∷ []), true)
    ∷ (bytes ((5, 6, CR) ∷ (6, 7, CR) ∷ []), false)
    ∷ (bytes ((7, 7, CR) ∷ (5, 6, CR) ∷ []), false)
    ∷ (bytes ((6, 5, CR) ∷ []), false)
    -- the ends are scalar values, though not all between need be
    ∷ (bytes ((0xD7FF, 0xE000, Control) ∷ []), true)
    ∷ (bytes ((0xD800, 0xE000, Control) ∷ []), false)
    ∷ (bytes ((0xD7FF, 0xDFFF, Control) ∷ []), false)
    ∷ (bytes ((0, 0x10FFFF, Other) ∷ []), true)
    ∷ (bytes ((0, 0x110000, Other) ∷ []), false)
    -- class Other with a mark; the last class with one; class 14; mark 2
    ∷ (bytes ((5, 5, marked Other) ∷ []), true)
    ∷ (bytes ((5, 5, marked HLVT) ∷ []), true)
    ∷ (bytes ((5, 5, CLASSES) ∷ []), false)
    ∷ (bytes ((5, 5, 32) ∷ []), false)
    ∷ []

same : Bool → Bool → Bool
same true b = b
same false b = not b

tables_right : List (List ℕ × Bool) → Bool
tables_right [] = true
tables_right (r ∷ rs) = same (table_ok r.0) r.1 && tables_right rs

tables_hold : T (tables_right tables)
unfolding tables_right tables same some_ranges bytes columns firsts lasts kinds le num every scalar first_at last_at kind_at last_before after_last ends_at known_at range_ok ranges_ok table_ok
tables_hold = tt
