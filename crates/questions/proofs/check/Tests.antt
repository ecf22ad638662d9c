-- Tests in a row, tests of the rest of some bytes, and what they say of a value that is one of two or has zeros behind.
-- Assumes nothing.
use mathlib.Core.Path.{◌≡◌, sym, ap, ◌∙◌}
use mathlib.Core.Bool.{Bool, true, false, ◌&&◌}
use mathlib.Core.List.{List}
use Prim.Native.Nat.{ℕ, ◌-◌}
use native.Mathlib.Nat.{sub-zero}
use lib.ListN.{length, take, drop, get_or}
use borrow.Author.Tests.{eq-eqb, ne_eqb}
use Rattle.area.specs.Zero.{all_zero}
use Rattle.area.proofs.Splice.{part_rest}
use Rattle.session.specs.Codec.{Codec, nothing, slot, either}

-- ---- tests in a row: the first one fails, or it holds and the others decide

pub stop : (a b : Bool) {x : Bool} → x ≡ (a && b) → a ≡ false → false ≡ x
stop a b e h = sym (e ∙ ap (λ (t : Bool). t && b) h)

pub next : (a b : Bool) {x : Bool} → x ≡ (a && b) → a ≡ true → x ≡ b
next a b e h = e ∙ ap (λ (t : Bool). t && b) h

-- the same of a test that was made, b
pub stop_by : (p q : Bool) {r b : Bool} → r ≡ (p && q) → b ≡ p → b ≡ false → false ≡ r
stop_by p q e f g = stop p q e (sym f ∙ g)

pub next_by : (p q : Bool) {r b : Bool} → r ≡ (p && q) → b ≡ p → b ≡ true → r ≡ q
next_by p q e f g = next p q e (sym f ∙ g)

-- a test of the rest from a on
pub cut : (test : List ℕ → Bool) (a : ℕ) (l : List ℕ) {b : Bool} → b ≡ test (take (length l - a) (drop a l)) → b ≡ test (drop a l)
cut test a l e = e ∙ ap test (part_rest a l)

-- ---- one of two, told apart by a byte

module _ {A B : Type 0} (X : Codec A) (Y : Codec B) (l : List ℕ) where
  pub is_left : get_or l 0 0 ≡ 0 → (either X Y).ok l ≡ X.ok (drop 1 l)
  unfolding either
  is_left e = rw (eq-eqb (get_or l 0 0) 0 e)

  pub is_right : get_or l 0 0 ≡ 1 → (either X Y).ok l ≡ Y.ok (drop 1 l)
  unfolding either
  is_right e = rw e

  pub is_none : (get_or l 0 0 ≡ 0 → ⊥) → (get_or l 0 0 ≡ 1 → ⊥) → (either X Y).ok l ≡ false
  unfolding either
  is_none a b = rw (ne_eqb (get_or l 0 0) 0 a, ne_eqb (get_or l 0 0) 1 b)

-- ---- a value and zeros behind it

pub slot_ok : {A : Type 0} (w m : ℕ) (X : Codec A) (l : List ℕ) → X.width ≡ m → (slot w X).ok l ≡ (X.ok l && all_zero (take (w - m) (drop m l)))
unfolding slot
slot_ok w m X l e = rw e

pub blank : (w : ℕ) (l : List ℕ) → (slot w nothing).ok l ≡ all_zero (take w l)
unfolding slot nothing
blank w l = rw sub-zero
