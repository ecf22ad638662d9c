-- The laws of texts written one behind the other.
-- Assumes nothing.
use mathlib.Core.Path.{◌≡◌, refl, sym, ap, ◌∙◌}
use mathlib.Core.Bool.{Bool, true, false}
use mathlib.Core.List.{List, [], ◌∷◌, ◌++◌, append_assoc}
use Prim.Native.Nat.{ℕ, zero, suc, ◌+◌, ◌*◌, ◌/◌, ◌%◌, ◌^◌, ◌<◌, ◌≤◌}
use native.Mathlib.Nat.{div-lt_iff_lt-mul, pow-suc, mul-le-mul_left, lt_of_lt_of_le}
use native.Mathlib.Numerals.{add-one}
use native.Mathlib.Omega.{arith}
use lib.Seq.{take-suc}
use lib.Dec.{ltb}
use lib.ListN.{length, take, get_or, set, length-append}
use borrow.Author.Tests.{ltb-true, ltb-false}
use Rattle.area.specs.Splice.{splice}
use Rattle.area.proofs.Splice.{splice-append, length-splice}
use Rattle.trace.specs.Numeral.{glyph, numeral}
use Rattle.trace.proofs.numeral.Digits.{length_last, length_more}
use Rattle.trace.specs.Wrote.{Wrote}
use Rattle.trace.specs.Lines.{pairs}

pub wrote_none : (at : ℕ) (x : List ℕ) → Wrote at [] x x at
unfolding splice
wrote_none at x = record { bytes = refl; place = omega arith; size = refl }

-- one text behind another is a text
pub wrote-append :
    (at n m : ℕ) (a b : List ℕ) {x y z : List ℕ} → Wrote at a x y n → Wrote n b y z m → Wrote at (a ++ b) x z m
wrote-append at n m a b {x} {y} {z} p q =
    record {
      bytes = q.bytes ∙ rw (p.bytes, p.place) (splice-append at a b x);
      place = let s = p.place in let t = q.place in rw length-append (omega arith);
      size = q.size ∙ p.size;
    }

-- a number below 10^k has at most k digits in a base from 10 on
pub numeral-short : (k b v : ℕ) → 10 ≤ b → v < 10 ^ suc k → length (numeral b v) ≤ suc k
numeral-short zero b v h e = go (ltb v b) refl
  where
    go : (t : Bool) → ltb v b ≡ t → length (numeral b v) ≤ 1
    go true p = let q = length_last b v (ltb-true v b p) in omega arith
    go false p = let q = ltb-false v b p in absurd (omega arith)
numeral-short (suc k) b v h e = go (ltb v b) refl (λ p. numeral-short k b (v / b) h p)
  where
    go : (t : Bool) → ltb v b ≡ t → (v / b < 10 ^ suc k → length (numeral b (v / b)) ≤ suc k) → length (numeral b v) ≤ suc (suc k)
    go true p f = let q = length_last b v (ltb-true v b p) in omega arith
    go false p f =
        let q = ltb-false v b p in
        let u : v < 10 ^ suc k * b = lt_of_lt_of_le (rw (pow-suc 10 (suc k)) at e) (mul-le-mul_left (10 ^ suc k) h) in
        let w = f ((div-lt_iff_lt-mul {k = b} {x = v} {y = 10 ^ suc k} (omega arith)).1 u) in
        omega (arith, length_more b v (omega arith) q)

-- a number of 64 bits has at most 20
pub numeral_20 : (b v : ℕ) → 10 ≤ b → v < 18446744073709551616 → length (numeral b v) ≤ 20
numeral_20 b v h k = numeral-short 19 b v h (omega arith)

-- what is written from its place on
pub wrote_splice : (at n : ℕ) (bs x : List ℕ) {y : List ℕ} → y ≡ splice at bs x → n ≡ length bs → Wrote at bs x y (at + n)
wrote_splice at n bs x e k = record { bytes = e; place = ap (λ (m : ℕ). at + m) k; size = ap length e ∙ length-splice at bs x }

-- a byte
pub wrote_byte : (at g : ℕ) (x : List ℕ) → Wrote at (g ∷ []) x (set x at g) (at + 1)
unfolding splice
wrote_byte at g x = wrote_splice at 1 (g ∷ []) x refl refl

pairs-append : (a b : List ℕ) → pairs (a ++ b) ≡ pairs a ++ pairs b
unfolding pairs
pairs-append [] b = refl
pairs-append (y ∷ a) b = ap (λ (l : List ℕ). glyph (y / 16) ∷ glyph (y % 16) ∷ l) (pairs-append a b)

-- one byte more
module _ (from i : ℕ) (t : List ℕ) where
  pairs_next : i < length t → pairs (take (i + 1) t) ≡ (pairs (take i t) ++ (glyph (get_or t i 0 / 16) ∷ [])) ++ (glyph (get_or t i 0 % 16) ∷ [])
  unfolding pairs
  pairs_next h =
      rw (add-one i, take-suc t i 0 h)
      (pairs-append (take i t) (get_or t i 0 ∷ []) ∙ sym (append_assoc (pairs (take i t)) (glyph (get_or t i 0 / 16) ∷ []) (glyph (get_or t i 0 % 16) ∷ [])))

  pub wrote-pair :
      {x y z w : List ℕ} {g g' at m n : ℕ} → i < length t → Wrote from (pairs (take i t)) x y at → g ≡ glyph (get_or t i 0 / 16) →
      Wrote at (g ∷ []) y z m → g' ≡ glyph (get_or t i 0 % 16) → Wrote m (g' ∷ []) z w n → Wrote from (pairs (take (i + 1) t)) x w n
  wrote-pair {x} {y} {z} {w} {g} {g'} {at} {m} {n} h p e q e' q' =
      rw (pairs_next h) (wrote-append from m n (pairs (take i t) ++ (glyph (get_or t i 0 / 16) ∷ [])) (glyph (get_or t i 0 % 16) ∷ [])
      (wrote-append from at m (pairs (take i t)) (glyph (get_or t i 0 / 16) ∷ []) p (rw e at q)) (rw e' at q'))
