-- What an arm of a match knows.
-- Assumes nothing.
use mathlib.Core.Path.{◌≡◌, sym, ap}
use mathlib.Core.List.{List, [], ◌∷◌}
use Prim.Native.Nat.{ℕ}

-- what is matched equals the arm's key or case
pub arm : {A B : Type 0} (f : A → B) {x k : A} → x ≡ k → f k ≡ f x
arm f h = sym (ap f h)

-- the keys of the arms 0, 1 and 2, the last arm first
abbrev pub first_three : List (List ℕ)
first_three = (2 ∷ []) ∷ (1 ∷ []) ∷ (0 ∷ []) ∷ []
