-- Extended grapheme clusters: Unicode Annex 29, section 3.1.1, rules GB1 to GB9b, GB11 to GB13 and GB999, in their order.
-- A text is the list of its scalar values' properties. At a place between two of them a is the one before and b the one behind; `left` has
-- those before, the nearest first, so that a rule's left side is read from its right end, in the text as it stands, across earlier breaks.
-- Assumes nothing.
use Rattle.std.specs.Prelude.{Bool, true, false, ◌&&◌, ◌||◌, List, [], ◌∷◌, ℕ, suc, ◌+◌, ◌%◌, eqb}
use Rattle.area.specs.Pick.{pick}
use Rattle.segmentation.specs.declared.Props.{Props}
use Rattle.segmentation.specs.Classes.{CR, LF, Extend, ZWJ, RI, Prepend, SpacingMark, HL, HV, HT, HLV, HLVT, control}

-- GB3    CR × LF
abbrev pub gb3 : ℕ → ℕ → Bool
gb3 a b = eqb a CR && eqb b LF

-- GB4    (Control | CR | LF) ÷
abbrev pub gb4 : ℕ → Bool
gb4 a = control a

-- GB5    ÷ (Control | CR | LF)
abbrev pub gb5 : ℕ → Bool
gb5 b = control b

-- GB6    L × (L | V | LV | LVT)
abbrev pub gb6 : ℕ → ℕ → Bool
gb6 a b = eqb a HL && (eqb b HL || (eqb b HV || (eqb b HLV || eqb b HLVT)))

-- GB7    (LV | V) × (V | T)
abbrev pub gb7 : ℕ → ℕ → Bool
gb7 a b = (eqb a HLV || eqb a HV) && (eqb b HV || eqb b HT)

-- GB8    (LVT | T) × T
abbrev pub gb8 : ℕ → ℕ → Bool
gb8 a b = (eqb a HLVT || eqb a HT) && eqb b HT

-- GB9    × (Extend | ZWJ)
abbrev pub gb9 : ℕ → Bool
gb9 b = eqb b Extend || eqb b ZWJ

-- GB9a   × SpacingMark
abbrev pub gb9a : ℕ → Bool
gb9a b = eqb b SpacingMark

-- GB9b   Prepend ×
abbrev pub gb9b : ℕ → Bool
gb9b a = eqb a Prepend

-- ends in  \p{Extended_Pictographic} Extend*
unfoldable pub pictograph : List Props → Bool
pictograph [] = false
pictograph (p ∷ left) = p.pictographic || (eqb p.class Extend && pictograph left)

-- ends in  \p{Extended_Pictographic} Extend* ZWJ
unfoldable pub joiner : List Props → Bool
joiner [] = false
joiner (p ∷ left) = eqb p.class ZWJ && pictograph left

-- GB11   \p{Extended_Pictographic} Extend* ZWJ × \p{Extended_Pictographic}
abbrev pub gb11 : List Props → Props → Bool
gb11 left b = joiner left && b.pictographic

-- the number of regional indicators that stand directly before
unfoldable pub indicators : List Props → ℕ
indicators [] = 0
indicators (p ∷ left) = pick (eqb p.class RI) (suc (indicators left)) 0

-- GB12   sot (RI RI)* RI × RI
-- GB13   [^RI] (RI RI)* RI × RI
abbrev pub gb12_13 : List Props → Props → Bool
gb12_13 left b = eqb (indicators left % 2) 1 && eqb b.class RI

-- whether there is a break between a and b, `before` being what stands before a: the first rule that fits decides
unfoldable pub break_at : Props → List Props → Props → Bool
break_at a before b =
    pick (gb3 a.class b.class) false
    (pick (gb4 a.class) true
    (pick (gb5 b.class) true
    (pick (gb6 a.class b.class) false
    (pick (gb7 a.class b.class) false
    (pick (gb8 a.class b.class) false
    (pick (gb9 b.class) false
    (pick (gb9a b.class) false
    (pick (gb9b a.class) false
    (pick (gb11 (a ∷ before) b) false
    (pick (gb12_13 (a ∷ before) b) false
    -- GB999  Any ÷ Any
    true))))))))))

abbrev pub one : Bool → ℕ
one true = 1
one false = 0

-- the number of breaks behind a
unfoldable pub breaks_after : Props → List Props → List Props → ℕ
breaks_after a before [] = 0
breaks_after a before (b ∷ bs) = one (break_at a before b) + breaks_after b (a ∷ before) bs

-- GB1    sot ÷ Any
-- GB2    Any ÷ eot: a text that is not empty has one piece more than breaks
unfoldable pub pieces : List Props → ℕ
pieces [] = 0
pieces (p ∷ ps) = 1 + breaks_after p [] ps
