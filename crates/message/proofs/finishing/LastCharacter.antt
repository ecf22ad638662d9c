-- The event of the press that the last character completes: its text where it stands, and its logical key by that text.
-- Assumes nothing.
use Rattle.std.specs.Prelude.{Option}
use mathlib.Core.Path.{◌≡◌, refl, sym, ap, ◌∙◌}
use mathlib.Core.Bool.{Bool, true}
use mathlib.Core.List.{List}
use Prim.Native.Nat.{ℕ, zero, suc, ◌+◌, ◌-◌, ◌≤◌, ◌<◌}
use native.Mathlib.Omega.{arith}
use lib.ListN.{length, take, drop, get_or, length-drop}
use Rattle.area.specs.Pick.{pick}
use Rattle.area.proofs.Splice.{part_rest}
use Rattle.segmentation.specs.Table.{Table}
use Rattle.lookup.specs.Codes.{key_code_of}
use Rattle.session.specs.Limits.{AREA, ENTRIES_MOST, TEXT_MOST, ANSWER_EVENTS_AT}
use Rattle.session.specs.Event.{Event, Info, Held}
use Rattle.session.specs.Session.{opt_text_fits}
use Rattle.session.specs.Area.{opt_text, key_code, full_key, event}
use Rattle.session.specs.Builder.{typed_key, last_text, several_text, char_event}
use Rattle.session.specs.InBlock.{last_in, LastFits, last_key, completed_with}
use Rattle.session.specs.declared.LastText.{LastText}
use Rattle.session.specs.declared.LastKey.{LastKey}
use Rattle.session.proofs.Fits.{KeyboardOk, last-text_fits}
use Rattle.queue.specs.Completing.{held_in, Completing, rest_of}
use Rattle.queue.specs.Stands.{event_place, FieldStands, EventStands}
use Rattle.queue.proofs.Standing.{spliced}
use Rattle.queue.proofs.held_event.Press.{held_in_range}
use Rattle.queue.proofs.held_event.EventParts.{stands_as, last-size, after_rest, after-last-text, last-event-stands}
use Rattle.event.specs.Written.{keyboard_at}
use Rattle.event.proofs.character.Completed.{length-within}
use Rattle.event.proofs.character.CompletedWith.{char_completed}
use Rattle.message.specs.TextField.{text_field}

-- ---- where its text stands, read from byte k of an area on

pub field-first :
    (place : ℕ) (x y : List ℕ) {k : ℕ} → place ≡ 0 → k ≡ ANSWER_EVENTS_AT + 62 → take (length y - k) (drop k y) ≡ text_field place x y
unfolding text_field
field-first zero x y {k} z e = part_rest k y ∙ ap (λ (n : ℕ). drop n y) e
field-first (suc n) x y z e = absurd (omega arith)

pub field-later :
    (place : ℕ) (x y : List ℕ) {k : ℕ} → (place ≡ 0 → ⊥) → k ≡ event_place place + 62 → take (length x - k) (drop k x) ≡ text_field place x y
unfolding text_field
field-later zero x y z e = absurd (z refl)
field-later (suc n) x y {k} z e = part_rest k x ∙ ap (λ (m : ℕ). drop m x) e

-- what `event::character::last_key` asks for, of a field f that is that text's
pub field-reads :
    (place : ℕ) (x y : List ℕ) → length x ≡ AREA → length y ≡ AREA → place < ENTRIES_MOST →
    get_or (text_field place x y) 0 0 ≤ TEXT_MOST → {f : List ℕ} → f ≡ text_field place x y →
    (TEXT_MOST + 1 ≤ length f) × (get_or f 0 0 ≤ TEXT_MOST)
unfolding text_field
field-reads zero x y l m n g e = rw e (omega (arith, length-drop (ANSWER_EVENTS_AT + 62) y), g)
field-reads (suc i) x y l m n g e = rw e (omega (arith, length-drop (event_place (suc i) + 62) x), g)

text-stands :
    (place : ℕ) (s : List ℕ) {x y x' y' : List ℕ} → Completing x y place → length s ≡ TEXT_MOST + 1 → FieldStands place 62 s x y x' y' →
    take (TEXT_MOST + 1) (text_field place x' y') ≡ s
unfolding text_field
text-stands zero s {x} {y} c l f =
    let n = c.answers in
    ap (λ (z : List ℕ). take (TEXT_MOST + 1) (drop (ANSWER_EVENTS_AT + 62) z)) (f.first refl).1
    ∙ spliced (ANSWER_EVENTS_AT + 62) (TEXT_MOST + 1) s y l (omega arith)
text-stands (suc n) s {x} {y} c l f =
    let m = c.session in
    let w = c.few in
    ap (λ (z : List ℕ). take (TEXT_MOST + 1) (drop (event_place (suc n) + 62) z)) (f.later (λ e. omega arith)).0
    ∙ spliced (event_place (suc n) + 62) (TEXT_MOST + 1) s x l (omega arith)

-- ---- its logical key

-- what tells it from a text in its field
abbrev pub Tells : Table → Bool → List ℕ → LastKey → Type 0
Tells r mark field k =
    (t : Option (List ℕ)) → opt_text_fits t ≡ true → take (TEXT_MOST + 1) field ≡ opt_text.put t → (n : Info) →
    last_key k n t ≡ pick mark (typed_key (several_text r t) n.logical_key n.scancode t) n.logical_key

pub told-key : (r : Table) (k : LastKey) {mark m : Bool} {field f : List ℕ} → Tells r mark field k → mark ≡ m → field ≡ f → Tells r m f k
told-key r k g e h = rw (← e, ← h) g

-- ---- the event

module _
    {x y x₁ y₁ x₂ y₂ : List ℕ} (state block : List ℕ) (place : ℕ) (b : (i : ℕ) → get_or x i 0 < 256) (c : Completing x y place)
    (board : KeyboardOk (keyboard_at state block)) (l : LastText)
    (says : last_in block (held_in x).units l ≡ last_text (keyboard_at state block) (held_in x)) (fits : LastFits block l)
    (rest : FieldStands place 111 (rest_of (held_in x)) x y x₁ y₁)
    (text : FieldStands place 62 (opt_text.put (last_in block (held_in x₁).units l)) x₁ y₁ x₂ y₂) where
  abbrev last_of : Option (List ℕ)
  last_of = last_text (keyboard_at state block) (held_in x)

  last_fits : opt_text_fits last_of ≡ true
  last_fits = let h = held_in_range b c in last-text_fits (keyboard_at state block) (held_in x) board h.0 h.1

  same_text : opt_text.put (last_in block (held_in x₁).units l) ≡ opt_text.put last_of
  same_text = ap (λ (h : Held). opt_text.put (last_in block h.units l)) (after_rest place b c rest).1 ∙ ap opt_text.put says

  last-stands : take (TEXT_MOST + 1) (text_field place x₂ y₂) ≡ opt_text.put last_of
  last-stands =
      let n : length (opt_text.put last_of) ≡ 49 =
      sym (ap (λ (t : Option (List ℕ)). length (opt_text.put t)) says) ∙ last-size block (held_in x).units l (held_in_range b c).1 fits in
      text-stands place (opt_text.put last_of) (after_rest place b c rest).0 n (stands_as place 62 same_text text)

  pub length_in : get_or (text_field place x₂ y₂) 0 0 ≤ TEXT_MOST
  length_in = length-within (text_field place x₂ y₂) last_of last_fits last-stands

  pub char-stands :
      (r : Table) (key : LastKey) {x₃ y₃ x₄ y₄ : List ℕ} → Tells r (held_in x₂).mark (text_field place x₂ y₂) key →
      FieldStands place 6 ((full_key TEXT_MOST).put (last_key key (held_in x₂).info (last_in block (held_in x₂).units l))) x₂ y₂ x₃ y₃ →
      FieldStands place 0 (key_code.put (key_code_of (held_in x₃).info.scancode)) x₃ y₃ x₄ y₄ →
      EventStands place (char_event (keyboard_at state block) r (held_in x)) x y x₄ y₄
  char-stands r key {x₃} {y₃} {x₄} {y₄} tells put code =
      let h = held_in x in
      let known : Tells r h.mark (text_field place x₂ y₂) key =
      told-key r key {field = text_field place x₂ y₂} tells (ap (λ (g : Held). g.mark) (after-last-text place b c rest block l fits text).1) refl in
      let e : completed_with h (last_key key h.info (last_in block h.units l)) (last_in block h.units l) ≡ char_event (keyboard_at state block) r h =
      ap (λ (t : Option (List ℕ)). completed_with h (last_key key h.info t) t) says
      ∙ char_completed (keyboard_at state block) r h (last_key key h.info last_of) (known last_of last_fits last-stands h.info) in
      stands_as place 0 (ap (λ (v : Event). event.put v) e) (last-event-stands place b c rest block l fits text key put code)
