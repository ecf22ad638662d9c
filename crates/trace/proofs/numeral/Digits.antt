-- The laws of numerals: the last digit and the rest. Whoever uses numerals needs no other.
-- Assumes nothing.
use mathlib.Core.Path.{◌≡◌, refl, sym, ap, ◌∙◌}
use mathlib.Core.Bool.{Bool, true, false}
use mathlib.Core.List.{List, [], ◌∷◌, ◌++◌}
use Prim.Native.Nat.{ℕ, zero, suc, ◌+◌, ◌/◌, ◌%◌, ◌<◌, ◌≤◌}
use native.Mathlib.Nat.{div-lt_self}
use native.Mathlib.Omega.{arith}
use lib.Dec.{ltb}
use lib.ListN.{length, set, length-append}
use lib.Seq.{set_comm}
use borrow.Author.Tests.{lt-ltb, le-ltb, ltb-false}
use Rattle.area.specs.Pick.{pick}
use Rattle.area.specs.Splice.{splice}
use Rattle.area.proofs.Splice.{splice-append}
use Rattle.trace.specs.Numeral.{glyph, numeral_to, numeral}

-- more steps than v give the same digits
steady : (m n b v : ℕ) → 1 < b → v < m → v < n → numeral_to m b v ≡ numeral_to n b v
unfolding numeral_to
steady zero n b v o h k = absurd (omega arith)
steady (suc m) zero b v o h k = absurd (omega arith)
steady (suc m) (suc n) b v o h k = go (ltb v b) refl (λ w p q. steady m n b w o p q)
  where
    go :
        (t : Bool) → ltb v b ≡ t → ((w : ℕ) → w < m → w < n → numeral_to m b w ≡ numeral_to n b w) →
        pick (ltb v b) (glyph v ∷ []) (numeral_to m b (v / b) ++ (glyph (v % b) ∷ []))
        ≡ pick (ltb v b) (glyph v ∷ []) (numeral_to n b (v / b) ++ (glyph (v % b) ∷ []))
    go true e f = rw e
    go false e f =
        let g = ltb-false v b e in
        let l : v / b < v = div-lt_self (omega arith) o in
        rw (e, f (v / b) (omega arith) (omega arith))

module _ (b v : ℕ) where
  pub numeral-last : v < b → numeral b v ≡ glyph v ∷ []
  unfolding numeral numeral_to
  numeral-last h = rw (lt-ltb v b h)

  pub numeral-more : 1 < b → b ≤ v → numeral b v ≡ numeral b (v / b) ++ (glyph (v % b) ∷ [])
  unfolding numeral numeral_to
  numeral-more o h =
      let l : v / b < v = div-lt_self (omega arith) o in
      rw (le-ltb v b h) (ap (λ (x : List ℕ). x ++ (glyph (v % b) ∷ [])) (steady v (suc (v / b)) b (v / b) o l (omega arith)))

  pub length_last : v < b → length (numeral b v) ≡ 1
  length_last h = ap length (numeral-last h)

  pub length_more : 1 < b → b ≤ v → length (numeral b v) ≡ length (numeral b (v / b)) + 1
  length_more o h = ap length (numeral-more o h) ∙ length-append (numeral b (v / b)) (glyph (v % b) ∷ [])

-- a set behind what is written may be done before
set-splice : (at : ℕ) (a x : List ℕ) (j g : ℕ) → at + length a ≤ j → set (splice at a x) j g ≡ splice at a (set x j g)
unfolding splice
set-splice at [] x j g h = refl
set-splice at (y ∷ a) x j g h =
    set-splice (suc at) a (set x at y) j g (omega arith)
    ∙ ap (λ (w : List ℕ). splice (suc at) a w) (set_comm x at j y g (λ e. omega arith))

-- a loop that writes the digits from the last on: the rest over what stands there gives the whole
module _ (at b v i : ℕ) (x : List ℕ) where
  pub write_last : v < b → set x at (glyph v) ≡ splice at (numeral b v) x
  unfolding splice
  write_last h = rw (numeral-last b v h)

  pub write_more :
      1 < b → b ≤ v → i + 1 ≡ length (numeral b v) → splice at (numeral b (v / b)) (set x (at + i) (glyph (v % b))) ≡ splice at (numeral b v) x
  unfolding splice
  write_more o h e =
      let l : length (numeral b (v / b)) ≡ i = omega (arith, length_more b v o h) in
      sym (set-splice at (numeral b (v / b)) x (at + i) (glyph (v % b)) (omega arith))
      ∙ ap (λ (n : ℕ). set (splice at (numeral b (v / b)) x) (at + n) (glyph (v % b))) (sym l)
      ∙ splice-append at (numeral b (v / b)) (glyph (v % b) ∷ []) x
      ∙ ap (λ (w : List ℕ). splice at w x) (sym (numeral-more b v o h))
