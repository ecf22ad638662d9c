-- UTF-16 units as they stand in an area, and their text written into one.
-- Assumes nothing.
use Rattle.std.specs.Prelude.{◌≡◌, List, [], ◌∷◌, ℕ, zero, suc, ◌≤◌, ◌<◌, length, drop, Option, None, Some}
use Rattle.area.specs.Bytes.{num}
use Rattle.area.specs.Splice.{splice}
use Rattle.text.specs.Unicode.{text_of}

-- the n units at the head of some bytes, two bytes each
unfoldable pub units_at : ℕ → List ℕ → List ℕ
units_at zero l = []
units_at (suc n) l = num 2 0 l ∷ units_at n (drop 2 l)

-- a text's bytes; of none no byte
abbrev pub bytes_in : Option (List ℕ) → List ℕ
bytes_in None = []
bytes_in (Some t) = t

-- y is x with the text of units us written over it from `at`, and r is the text's length. Where they have none, r is 0, and
-- what stands there is the text of those before the unpaired surrogate
pub record Put (us : List ℕ) (at : ℕ) (x y : List ℕ) (r : ℕ) : Type 0 where
  pub bytes : List ℕ
  pub short : length bytes ≤ 48
  pub within : r ≤ length bytes
  pub stands : y ≡ splice at bytes x
  pub count : r ≡ length (bytes_in (text_of us))
  pub whole : 0 < r → text_of us ≡ Some bytes
