-- What a focus change and a character ask for.
-- Assumes nothing.
use Rattle.std.specs.Prelude.{Option, Some, None}
use mathlib.Core.Path.{◌≡◌, refl, sym, ap, ◌∙◌}
use mathlib.Core.Bool.{Bool, true, false}
use mathlib.Core.List.{List, [], ◌∷◌}
use Prim.Native.Nat.{ℕ, ◌+◌, ◌≤◌}
use native.Mathlib.Omega.{arith}
use lib.ListN.{length, drop, length-append}
use Rattle.text.specs.Message.{char_units}
use Rattle.text.specs.Stored.{two_units, units_in}
use Rattle.text.specs.declared.CharUnits.{CharUnits}
use Rattle.text.proofs.Message.{char-units, added_count}
use Rattle.session.specs.Limits.{ENTRIES_MOST, UNITS_MOST, HELD_AT}
use Rattle.session.specs.declared.Message.{Message}
use Rattle.session.specs.Event.{Held}
use Rattle.session.specs.Focus.{focus_events}
use Rattle.session.specs.Session.{Entry, Session}
use Rattle.session.specs.Builder.{Keyboard, with_units}
use Rattle.session.specs.Area.{held, decode}
use Rattle.session.specs.Calls.{Sort, char, focus}
use Rattle.session.specs.Questions.{is_held, behind_some, new_entries, units_after}
use Rattle.session.specs.declared.ElementState.{ElementState}
use Rattle.session.proofs.Fits.{focus_most}
use Rattle.queue.specs.Completing.{held_in}
use Rattle.queue.specs.Room.{IsArea}
use Rattle.queue.proofs.HeldPress.{held_there, held_passes}

-- ---- a focus change

behind-some : (l : List Entry) (n : ℕ) → (length l ≡ 0 → ⊥) → n ≡ behind_some l n
behind-some [] n h = absurd (h refl)
behind-some (x ∷ r) n h = refl

pub all_focus :
    (s : Session) (b : Keyboard) (st : ElementState) (n : ℕ) →
    (length s.entries ≡ 0 → ⊥) → n ≡ length (focus_events b st) → (n ≡ new_entries s b (focus st)) × (n ≤ ENTRIES_MOST)
unfolding new_entries
all_focus s b st n h e =
    let l = focus_most b st in
    (e ∙ behind-some s.entries (length (focus_events b st)) h, omega arith)

-- ---- units

-- a character without a held press
unheld : (o : Option Held) (g : Message) (k : Sort) → is_held o ≡ false → 0 ≡ units_after o g k
unfolding units_after
unheld None g k e = refl
unheld (Some h) g k e = let z : ◌≡◌ {A = ℕ} 0 1 = cc in omega arith

-- .. and with one
with_char : (h : Held) (g : Message) (a : CharUnits) → a ≡ two_units (char_units g.wparam) → length h.units + length (units_in a) ≡ units_after (Some h) g char
unfolding units_after with_units
with_char h g a e =
    ap (λ (n : ℕ). length h.units + n) (added_count g.wparam a e) ∙ sym (length-append h.units (char_units g.wparam))

-- the area's header says whether a press is held
module _ (x : List ℕ) {p : Bool} (ep : p ≡ is_held (decode x).held) where
  pub char_unheld : p ≡ false → (g : Message) → 0 ≡ units_after (decode x).held g char
  char_unheld h g = unheld (decode x).held g char (sym ep ∙ h)

  module _ (r : IsArea x) (is : p ≡ true) where
    pub press_there : held.ok (drop HELD_AT x) ≡ true
    press_there = held_passes x r (sym ep ∙ is)

    pub char-units-held :
        (n : ℕ) (g : Message) (a : CharUnits) → n ≡ length (held_in x).units → a ≡ two_units (char_units g.wparam) →
        n + length (units_in a) ≡ units_after (decode x).held g char
    char-units-held n g a en ea =
        ap (λ (m : ℕ). m + length (units_in a)) en ∙ with_char (held_in x) g a ea ∙ ap (λ (o : Option Held). units_after o g char) (sym (held_there x r (sym ep ∙ is)))

pub units-fit : (n w : ℕ) (a : CharUnits) → n ≤ UNITS_MOST → a ≡ two_units (char_units w) → n + length (units_in a) ≤ UNITS_MOST + 2
units-fit n w a h e = omega (arith, (char-units w).2, added_count w a e)
