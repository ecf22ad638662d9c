-- The breaks in one pass forward: what the rules ask of the scalar values before is held in a state.
-- That it finds the breaks of the rules is `several_by` of proofs/Forward.antt.
-- Assumes nothing.
use Rattle.std.specs.Prelude.{Bool, false, not, ◌&&◌, ◌||◌, List, [], ◌∷◌, ℕ, eqb}
use Rattle.text.specs.Unicode.{scalars_in}
use Rattle.segmentation.specs.declared.Props.{Props}
use Rattle.segmentation.specs.declared.grapheme.Behind.{Behind}
use Rattle.segmentation.specs.Classes.{Other, Extend, ZWJ, RI, control}
use Rattle.segmentation.specs.Rules.{gb3, gb6, gb7, gb8, gb9, gb9a, gb9b}
use Rattle.segmentation.specs.Table.{Table, props_of}

-- GB6 to GB8
abbrev pub hangul : ℕ → ℕ → Bool
hangul a b = gb6 a b || (gb7 a b || gb8 a b)

-- the rules' ladder as one sum of bits
abbrev pub break_by : Behind → Props → Bool
break_by s p =
    not (gb3 s.last p.class)
    && ((control s.last || control p.class)
    || not (hangul s.last p.class
    || ((gb9 p.class || (gb9a p.class || gb9b s.last))
    || ((s.joiner && p.pictographic) || (s.odd && eqb p.class RI)))))

-- before the first scalar value
abbrev pub start : Behind
start = record { last = Other; odd = false; pictograph = false; joiner = false }

abbrev pub next_of : Behind → Props → Behind
next_of s p =
    record {
      last = p.class;
      odd = eqb p.class RI && not s.odd;
      pictograph = p.pictographic || (eqb p.class Extend && s.pictograph);
      joiner = eqb p.class ZWJ && s.pictograph;
    }

-- some break behind s
unfoldable pub breaks_in : Behind → List Props → Bool
breaks_in s [] = false
breaks_in s (p ∷ ps) = break_by s p || breaks_in (next_of s p) ps

-- some break in a text, in UTF-8, that goes on behind s
unfoldable pub breaks_by : Table → Behind → List ℕ → Bool
breaks_by t s text = breaks_in s (props_of t (scalars_in text))
