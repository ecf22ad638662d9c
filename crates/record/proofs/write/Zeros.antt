-- What zeros stand for: no held press, and the area of a fresh session.
-- Assumes nothing.
use Rattle.std.specs.Prelude.{None}
use mathlib.Core.Path.{◌≡◌, refl, sym, ap, ◌∙◌}
use mathlib.Core.Bool.{true, false}
use mathlib.Core.List.{List}
use Prim.Native.Nat.{ℕ}
use native.Mathlib.Nat.{sub-zero}
use lib.Dec.{eqb}
use lib.ListN.{length, replicate}
use borrow.Author.Tests.{eq-eqb, ne_eqb}
use Rattle.area.specs.Pick.{pick}
use Rattle.area.specs.Splice.{splice}
use Rattle.area.specs.Zero.{zero_from}
use Rattle.session.specs.Limits.{AREA, HELD_FIELD_SIZE}
use Rattle.session.specs.Session.{fresh_session}
use Rattle.session.specs.Area.{held_field, encode}
use Rattle.session.specs.Answers.{fresh_area}
use Rattle.session.proofs.Area.{fresh-area}
use Rattle.record.proofs.Written.{none_put}

-- ---- no held press

pub none_written :
    (at : ℕ) (x : List ℕ) {k : ℕ} {zs y : List ℕ} → y ≡ splice k zs x → zs ≡ replicate HELD_FIELD_SIZE 0 → k ≡ at →
    y ≡ splice at (held_field.put None) x
none_written at x p e f = p ∙ rw (e, f) (sym (ap (λ (r : List ℕ). splice at r x) none_put))

-- ---- a fresh session

zeros_fresh : (x : List ℕ) → length x ≡ AREA → zero_from 0 x ≡ encode fresh_session
unfolding zero_from fresh_area
zeros_fresh x h = ap (λ (n : ℕ). replicate {A = ℕ} n 0) (sub-zero (length x) ∙ h) ∙ sym fresh-area

pub other_size :
    (x : List ℕ) → (length x ≡ AREA → ⊥) →
    (false ≡ eqb (length x) AREA) × (x ≡ pick (eqb (length x) AREA) (encode fresh_session) x)
other_size x h = rw (ne_eqb (length x) AREA h) (refl, refl)

pub right-size :
    (x : List ℕ) {n : ℕ} {y : List ℕ} → length x ≡ AREA → y ≡ zero_from n x → n ≡ 0 →
    (true ≡ eqb (length x) AREA) × (y ≡ pick (eqb (length x) AREA) (encode fresh_session) x)
right-size x h p e = rw (eq-eqb (length x) AREA h) (refl, p ∙ ap (λ (k : ℕ). zero_from k x) e ∙ zeros_fresh x h)
