-- Grapheme_Cluster_Break (Unicode Annex 29, table 2) as numbers: the break classes that a table gives its ranges.
-- Assumes nothing.
use Rattle.std.specs.Prelude.{Bool, false, ◌||◌, ℕ, eqb}
use Rattle.segmentation.specs.declared.Props.{Props}

-- any other scalar value, one outside of all ranges too
abbrev pub Other : ℕ
Other = 0

abbrev pub CR : ℕ
CR = 1

abbrev pub LF : ℕ
LF = 2

abbrev pub Control : ℕ
Control = 3

abbrev pub Extend : ℕ
Extend = 4

abbrev pub ZWJ : ℕ
ZWJ = 5

-- Regional_Indicator
abbrev pub RI : ℕ
RI = 6

abbrev pub Prepend : ℕ
Prepend = 7

abbrev pub SpacingMark : ℕ
SpacingMark = 8

-- the Hangul syllable types L, V, T, LV and LVT
abbrev pub HL : ℕ
HL = 9

abbrev pub HV : ℕ
HV = 10

abbrev pub HT : ℕ
HT = 11

abbrev pub HLV : ℕ
HLV = 12

abbrev pub HLVT : ℕ
HLVT = 13

-- how many there are
abbrev pub CLASSES : ℕ
CLASSES = 14

-- SCOPE 3.13: a scalar value outside of all ranges has class Other
abbrev pub outside : Props
outside = record { class = Other; pictographic = false }

-- Control | CR | LF
abbrev pub control : ℕ → Bool
control c = eqb c CR || (eqb c LF || eqb c Control)
