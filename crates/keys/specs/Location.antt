-- A key location as a number.
-- Assumes nothing.
use Rattle.std.specs.Prelude.{ℕ, [], ◌∷◌}
use Rattle.area.specs.Look.{assoc}
use Rattle.keys.specs.declared.KeyLocation.{KeyLocation}
use Rattle.keys.specs.declared.KeyLocation.TheVariants.{Standard, Left, Right, Numpad}

-- the place of the case in tao's KeyLocation
unfoldable pub location_number : KeyLocation → ℕ
location_number Standard = 0
location_number Left = 1
location_number Right = 2
location_number Numpad = 3

-- how many cases there are
abbrev pub location_cases : ℕ
location_cases = 4

-- the location of a number; past the last, the last
unfoldable pub location_at : ℕ → KeyLocation
location_at n = assoc ((0, Standard) ∷ (1, Left) ∷ (2, Right) ∷ []) Numpad n
