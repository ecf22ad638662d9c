-- A key that Control forces is in range, and no dead one.
-- Assumes nothing.
use Rattle.std.specs.Prelude.{Some, None}
use Rattle.std.proofs.lemmas.Option.{same_Some}
use mathlib.Core.Path.{◌≡◌, refl, subst}
use mathlib.Core.Bool.{Bool, true, false}
use Prim.Native.Nat.{ℕ}
use lib.Dec.{eqb}
use Rattle.area.specs.Pick.{pick}
use Rattle.area.specs.Look.{assoc}
use Rattle.keys.specs.Places.{num_lock, pause}
use Rattle.keys.specs.Text.{FullKey, named}
use Rattle.keys.specs.declared.key_code.KeyCode.{KeyCode}
use Rattle.keys.specs.Number.{code_number}
use Rattle.lookup.proofs.keyboard_layout.Ranges.{Each}
use Rattle.session.specs.Builder.{Keyboard, code_as_key, forced_key, undead}
use Rattle.session.proofs.Ranges.{KeyFits}
use Rattle.session.proofs.Fits.{forced_fits}

undead_by : (a b : Bool) (k : FullKey) → pick a (Some (named num_lock)) (pick b (Some (named pause)) None) ≡ Some k → undead k ≡ k
unfolding undead
undead_by true b k e = subst (λ x. undead x ≡ x) (same_Some _ _ e) refl
undead_by false true k e = subst (λ x. undead x ≡ x) (same_Some _ _ e) refl
undead_by false false k e = cc

undead-forced : (on : Bool) (c : KeyCode) (k : FullKey) → code_as_key on c ≡ Some k → undead k ≡ k
unfolding code_as_key assoc code_number
undead-forced false c k e = cc
undead-forced true c k e = undead_by (eqb (code_number c) 85) (eqb (code_number c) 121) k e

pub forced_stands : (b : Keyboard) (scancode : ℕ) (k : FullKey) → forced_key b scancode ≡ Some k → (undead k ≡ k) × KeyFits k
unfolding forced_key
forced_stands b scancode k e =
    (undead-forced _ _ k e, subst (Each KeyFits) e (forced_fits b scancode))
