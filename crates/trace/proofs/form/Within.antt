-- A number that was read is at most the top that was asked for.
-- Assumes nothing.
use mathlib.Core.Path.{◌≡◌, refl, subst}
use mathlib.Core.Bool.{Bool, true, false}
use mathlib.Core.List.{List, [], ◌∷◌}
use Prim.Native.Nat.{ℕ, ◌+◌, ◌*◌, ◌≤◌}
use native.Mathlib.Omega.{arith}
use lib.Dec.{leb, eqb}
use lib.ListN.{drop, get_or}
use borrow.Author.Tests.{leb-true}
use Rattle.std.specs.Prelude.{Option, Some, None, IfSome}
use Rattle.area.specs.Pick.{pick}
use Rattle.trace.specs.Form.{◌>>=◌, Number, on_digit, digit_of, digits_from, number_at, field_at}

-- what holds of both choices holds of the chosen
pub by_pick : {A : Type 0} (P : A → Type 0) (t : Bool) (a b : A) → (t ≡ true → P a) → (t ≡ false → P b) → P (pick t a b)
by_pick P true a b f g = f refl
by_pick P false a b f g = g refl

-- the same with a digit and without one
pub by_digit :
    (P : Number → Type 0) (o : Option ℕ) (before : Number) (f : ℕ → Number) → (o ≡ None → P before) →
    ((d : ℕ) → o ≡ Some d → P (f d)) → P (on_digit o before f)
by_digit P None before f n s = n refl
by_digit P (Some d) before f n s = s d refl

-- the same of what follows a value
pub by_some :
    {A B : Type 0} (P : Option B → Type 0) (o : Option A) (f : A → Option B) → P None → ((a : A) → o ≡ Some a → P (f a)) → P (o >>= f)
by_some P None f n s = n
by_some P (Some a) f n s = s a refl

abbrev Within : ℕ → Number → Type 0
Within top o = IfSome o (λ r. r.0 ≤ top)

digits_within : (top v at : ℕ) (l : List ℕ) → v ≤ top → Within top (digits_from top v at l)
unfolding digits_from
digits_within top v at [] h = h
digits_within top v at (b ∷ bs) h =
    by_digit (λ (r : Number). Within top r) (digit_of b) _ _ (λ e. h)
    (λ d e. by_pick (λ (r : Number). Within top r) (leb (v * 16 + d) top) _ _
    (λ k. digits_within top (v * 16 + d) (at + 1) bs (leb-true (v * 16 + d) top k)) (λ k. tt))

number-within : (x : List ℕ) (top at : ℕ) → Within top (number_at x top at)
unfolding number_at
number-within x top at =
    by_some (λ (r : Number). Within top r) (digit_of (get_or x at 0)) _ tt
    (λ d e. by_pick (λ (r : Number). Within top r) (eqb d 0) _ _ (λ k. omega arith) (λ k. digits_within top 0 at (drop at x) (omega arith)))

field-within : (x : List ℕ) (top sep at : ℕ) → Within top (field_at x top sep at)
unfolding field_at
field-within x top sep at =
    by_some (λ (r : Number). Within top r) (number_at x top at) _ tt
    (λ r e. by_pick (λ (r : Number). Within top r) (eqb (get_or x r.1 0) sep) _ _
    (λ k. subst (λ (r : Number). Within top r) e (number-within x top at)) (λ k. tt))

pub within : (x : List ℕ) (top sep at : ℕ) (r : ℕ × ℕ) → field_at x top sep at ≡ Some r → r.0 ≤ top
within x top sep at r e = subst (λ (r : Number). Within top r) e (field-within x top sep at)
