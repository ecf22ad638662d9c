-- Bytes that pass a format's test are those of the value that is read there.
-- Assumes nothing.
use mathlib.Core.Path.{◌≡◌, sym, ap, ◌∙◌}
use mathlib.Core.Bool.{true}
use mathlib.Core.List.{List, ◌++◌, append_assoc}
use Prim.Native.Nat.{ℕ, ◌+◌, ◌≤◌, ◌<◌}
use native.Mathlib.Omega.{arith}
use lib.ListN.{length, take, drop, get_or, length-drop, take-append-drop}
use lib.Seq.{take_at, drop-drop}
use Rattle.area.specs.Splice.{splice}
use Rattle.area.proofs.Bytes.{bytes_drop, each-byte}
use Rattle.area.proofs.Splice.{splice_eq}
use Rattle.session.specs.Codec.{Codec}
use Rattle.session.proofs.Codec.{Sound}

-- a value of the format X, w bytes wide, that stands at k
module _
    {A : Type 0} {X : Codec A} {F : A → Type 0} (s : Sound X F) (w : ℕ) (e : X.width ≡ w) (x : List ℕ) (b : (i : ℕ) → get_or x i 0 < 256) (k : ℕ)
    (h : k + w ≤ length x) (o : X.ok (drop k x) ≡ true) where
  whole : (X.put (X.get (drop k x)) ++ drop w (drop k x) ≡ drop k x) × F (X.get (drop k x))
  whole = rw e at (s.exact (drop k x) (bytes_drop k x (each-byte x b)) (omega (arith, length-drop k x, e)) o)

  pub kept_length : length (X.put (X.get (drop k x))) ≡ w
  kept_length = s.sized (X.get (drop k x)) whole.1 ∙ e

  pub kept : take w (drop k x) ≡ X.put (X.get (drop k x))
  kept =
      sym (ap (λ (t : List ℕ). take w t) whole.0) ∙ take_at (X.put (X.get (drop k x))) (drop w (drop k x)) w kept_length

  -- where the same bytes stand, the same value is read
  pub still : (m : List ℕ) → take w m ≡ take w (drop k x) → (X.ok m ≡ true) × (X.get m ≡ X.get (drop k x))
  still m q =
      let g = X.get (drop k x) in
      let r : X.put g ++ drop w m ≡ m = ap (λ (t : List ℕ). t ++ drop w m) (sym kept ∙ sym q) ∙ take-append-drop w m in
      let c = s.back g (drop w m) whole.1 in
      (sym (ap X.ok r) ∙ c.0, sym (ap X.get r) ∙ c.1)

  -- a write of what stands there is none
  pub stands : splice k (X.put (X.get (drop k x))) x ≡ x
  stands =
      let p = X.put (X.get (drop k x)) in
      splice_eq p x k (omega (arith, kept_length))
      ∙ append_assoc (take k x) p (drop (k + length p) x)
      ∙ ap (λ (n : ℕ). take k x ++ (p ++ drop (k + n) x)) kept_length
      ∙ ap (λ (t : List ℕ). take k x ++ (p ++ t)) (sym (drop-drop w k x))
      ∙ ap (λ (t : List ℕ). take k x ++ t) whole.0
      ∙ take-append-drop k x
