-- The bytes of a text that stands in a list of bytes: its length, itself, zeros behind.
-- Assumes nothing.
use mathlib.Core.Path.{◌≡◌, refl, sym, ap, ◌∙◌}
use mathlib.Core.List.{List, [], ◌∷◌}
use Prim.Native.Nat.{ℕ, ◌+◌, ◌≤◌, ◌<◌}
use native.Mathlib.Omega.{arith}
use lib.ListN.{length}
use Rattle.area.specs.Splice.{splice, padded}
use Rattle.area.proofs.Splice.{chain}
use Rattle.keys.specs.Text.{text_from}
use Rattle.keys.specs.declared.KeyText.{KeyText}
use Rattle.keys.specs.declared.KeyText.TheVariants.{Own}
use Rattle.session.specs.Limits.{TEXT_MOST}
use Rattle.session.specs.Area.{bytes_of, text_bytes, opt_text}
use Rattle.record.proofs.Written.{text-put, opt_bytes}

pub part_written :
    (most : ℕ) (l : List ℕ) (at : ℕ) (x : List ℕ) {v k : ℕ} {y z : List ℕ} → length l < 256 → v ≡ length l → y ≡ splice at (v ∷ []) x →
    z ≡ splice k (padded most l) y → k ≡ at + 1 → z ≡ splice at ((text_bytes most).put l) x
part_written most l at x {v} {k} {y} h ev p q ek =
    chain at 1 (v ∷ []) (padded most l) x refl p (q ∙ rw ek refl)
    ∙ ap (λ (i : ℕ). splice at (i ∷ padded most l) x) ev
    ∙ ap (λ (d : List ℕ). splice at d x) (sym (text-put most l h))

-- ---- the text that a key gives

pub text-given :
    (p : List ℕ) (t u : KeyText) (l : List ℕ) (at : ℕ) (x : List ℕ) {y : List ℕ} → t ≡ u → l ≡ bytes_of (text_from p u) →
    y ≡ splice at ((text_bytes TEXT_MOST).put l) x → y ≡ splice at (opt_text.put (text_from p t)) x
text-given p t u l at x e f q =
    q
    ∙ ap (λ (b : List ℕ). splice at ((text_bytes TEXT_MOST).put b) x) (f ∙ ap (λ (v : KeyText). bytes_of (text_from p v)) (sym e))
    ∙ ap (λ (b : List ℕ). splice at b x) (sym (opt_bytes (text_from p t)))

pub own_within :
    (p : List ℕ) (t : KeyText) {l : List ℕ} → length (bytes_of (text_from p t)) ≤ TEXT_MOST → t ≡ Own → l ≡ p → length l ≤ TEXT_MOST
unfolding text_from
own_within p t h e f = omega (arith, ap length f, ap (λ (v : KeyText). length (bytes_of (text_from p v))) e)
