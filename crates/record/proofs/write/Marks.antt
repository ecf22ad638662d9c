-- The bytes of a key code, and of location, state, repeat and synthetic, part by part.
-- Assumes nothing.
use mathlib.Core.Path.{◌≡◌, ap, ◌∙◌}
use mathlib.Core.Bool.{Bool}
use mathlib.Core.List.{List, [], ◌∷◌}
use Prim.Native.Nat.{ℕ, ◌+◌, ◌/◌, ◌%◌, ◌^◌}
use native.Mathlib.Omega.{arith}
use Rattle.area.specs.Bytes.{le}
use Rattle.area.specs.Splice.{splice}
use Rattle.area.proofs.Bytes.{le_split, put_split}
use Rattle.keys.specs.CodeKey.{code_key}
use Rattle.keys.specs.Location.{location_number}
use Rattle.keys.specs.declared.KeyLocation.{KeyLocation}
use Rattle.keys.specs.declared.key_code.KeyCode.{KeyCode}
use Rattle.session.specs.Codec.{number, pair, checked, via}
use Rattle.session.specs.Area.{flag, state_number, state, location, key_code}
use Rattle.session.specs.declared.ElementState.{ElementState}
use Rattle.record.proofs.Records.{marks}
use Rattle.record.proofs.Written.{both, written_as, state-put, location-put, flag-length, state-length, location-length}

le_low : (v : ℕ) → le 2 (v % 65536) ≡ le 2 v
unfolding le
le_low v = le_split 2 0 v

pub code-written :
    (c : KeyCode) (at : ℕ) (x : List ℕ) {v k : ℕ} {y z : List ℕ} → v ≡ code_key c → y ≡ splice at (le 4 (v % 2 ^ 32)) x →
    z ≡ splice k (le 2 (v / 2 ^ 32 % 65536)) y → k ≡ at + 4 → z ≡ splice at (key_code.put c) x
unfolding key_code via checked number
code-written c at x {v} {k} {y} e p q g =
    put_split 4 2 at v x p (q ∙ rw (g, le_low (v / 2 ^ 32))) ∙ ap (λ (n : ℕ). splice at (le 6 n) x) e

pub marks_written :
    (l : KeyLocation) (s : ElementState) (b d : Bool) (at : ℕ) (x : List ℕ) {v w k₁ k₂ k₃ : ℕ} {y₁ y₂ y₃ y₄ : List ℕ} →
    v ≡ location_number l → y₁ ≡ splice at (v ∷ []) x → w ≡ state_number s → y₂ ≡ splice k₁ (w ∷ []) y₁ →
    y₃ ≡ splice k₂ (flag.put b) y₂ → y₄ ≡ splice k₃ (flag.put d) y₃ → k₁ ≡ at + 1 → k₂ ≡ at + 2 → k₃ ≡ at + 3 →
    y₄ ≡ splice at (marks.put (l, (s, (b, d)))) x
marks_written l s b d at x {k₁} {k₂} {k₃} {y₁} {y₂} e₁ p₁ e₂ p₂ p₃ p₄ f₁ f₂ f₃ =
    both location (pair state (pair flag flag)) l (s, (b, d)) at 1 k₁ x (location-length l) f₁ (written_as at x (location-put l e₁) p₁)
    (both state (pair flag flag) s (b, d) k₁ 1 k₂ y₁ (state-length s) (omega arith) (written_as k₁ y₁ (state-put s e₂) p₂)
    (both flag flag b d k₂ 1 k₃ y₂ (flag-length b) (omega arith) p₃ p₄))
