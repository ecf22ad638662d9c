-- A break table, and the pieces that a text has by it (SCOPE 3.13).
-- Assumes nothing.
use Rattle.std.specs.Prelude.{Bool, List, [], ◌∷◌, ℕ, ltb}
use Rattle.area.specs.Pick.{pick}
use Rattle.text.specs.Unicode.{within, scalars_in}
use Rattle.segmentation.specs.declared.Props.{Props}
use Rattle.segmentation.specs.Classes.{outside}
use Rattle.segmentation.specs.Rules.{pieces}

-- SCOPE 5.7: scalar values from the first to the last, with their break class and pictographic mark
pub record Range : Type 0 where
  pub first : ℕ
  pub last : ℕ
  pub props : Props

abbrev pub Table : Type 0
Table = List Range

abbrev pub holds : Range → ℕ → Bool
holds r s = within r.first r.last s

-- the properties of a scalar value: those of the first range that holds it
unfoldable pub props_in : Table → ℕ → Props
props_in [] s = outside
props_in (r ∷ rs) s = pick (holds r s) r.props (props_in rs s)

unfoldable pub props_of : Table → List ℕ → List Props
props_of t [] = []
props_of t (s ∷ ss) = props_in t s ∷ props_of t ss

-- the number of pieces of some scalar values
unfoldable pub pieces_of : Table → List ℕ → ℕ
pieces_of t ss = pieces (props_of t ss)

-- SCOPE 3.13: whether a text, in UTF-8, has several pieces: more than one
unfoldable pub several_in : Table → List ℕ → Bool
several_in t text = ltb 1 (pieces_of t (scalars_in text))
