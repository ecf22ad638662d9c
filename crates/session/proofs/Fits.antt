-- What the session's definitions make is in the range of its type, where the inputs passed question 3.
-- Assumes nothing.
use Rattle.std.specs.Prelude.{Option, Some, None}
use mathlib.Core.Path.{◌≡◌, refl}
use mathlib.Core.Bool.{Bool, true, false, and-eq-true_iff}
use mathlib.Core.List.{List, [], ◌∷◌, ◌++◌}
use Prim.Native.Nat.{ℕ, suc, ◌+◌, ◌≤◌, ◌<◌}
use native.Mathlib.Omega.{arith}
use lib.Dec.{eqb, ltb}
use lib.ListN.{length}
use borrow.Author.Tests.{lt-ltb, ltb-true}
use Rattle.area.specs.Look.{assoc}
use Rattle.area.specs.Bytes.{Bytes}
use Rattle.area.proofs.Pick.{chosen}
use Rattle.text.specs.Unicode.{Units}
use Rattle.text.specs.Message.{char_units}
use Rattle.segmentation.specs.Table.{Table}
use Rattle.text.proofs.Message.{char-units}
use Rattle.keys.specs.Places.{num_lock, pause}
use Rattle.keys.specs.Text.{FullKey}
use Rattle.keys.specs.Key.{named_ok}
use Rattle.keys.specs.declared.key_code.KeyCode.{KeyCode}
use Rattle.keys.specs.Number.{code_number}
use Rattle.keys.specs.CodeKey.{code_fits}
use Rattle.lookup.specs.Codes.{key_code_of}
use Rattle.lookup.specs.declared.keyboard.KeyLParam.{KeyLParam}
use Rattle.lookup.specs.Maps.{MapsOk}
use Rattle.lookup.specs.Block.{block_ok}
use Rattle.lookup.proofs.block.MapsExact.{maps_exact}
use Rattle.lookup.proofs.keyboard_layout.Ranges.{Each, or-else, scan_code_below, message-scancode_below, code_fits_lem}
use Rattle.lookup.specs.Layout.{get_key, scan_code_for, message_scancode}
use Rattle.session.specs.Limits.{ENTRIES_MOST, UNITS_MOST, TEXT_MOST, KEY_TEXT_MOST, WORD}
use Rattle.session.specs.Given.{Inputs}
use Rattle.session.specs.Event.{Event, Info, Held}
use Rattle.session.specs.Session.{opt_text_fits, full_key_fits, event_fits, all_fit, info_fits, units_fit, held_fits}
use Rattle.session.specs.Builder.{Keyboard, keyboard_of, modifiers_in, layout_key, plain_key, code_as_key, forced_key, from_message, held_of, with_units, typed_text, typed_key, finalize, press_event, dead_char_event, control_counts, last_text, several_text, char_event, release_event}
use Rattle.session.specs.Focus.{modifier_keys, is_other, others_from, focus_keys, focus_key, focus_text, synthetic_event, written, synthetic_events, focus_events}
use Rattle.session.specs.declared.ElementState.{ElementState}
use Rattle.session.specs.declared.ElementState.TheVariants.{Pressed, Released}
use Rattle.session.proofs.Ranges.{typed_fits, named_fits, character_fits, unidentified_fits, KeyFits, key_wider, undead_fits, to_text_fits, get-key_fits}

-- the layout's maps meet the conditions of question 3
abbrev pub KeyboardOk : Keyboard → Type 0
KeyboardOk b = MapsOk b.layout

-- a block that passed question 3 gives such a keyboard
pub keyboard_ok : (i : Inputs) → Bytes i.block → block_ok i.block ≡ true → KeyboardOk (keyboard_of i)
unfolding keyboard_of
keyboard_ok i bytes ok = (maps_exact i.block bytes ok).0

-- ---- the layout's keys

pub layout_fits :
    (b : Keyboard) (mods : ℕ) (num : Bool) (vkey scancode : ℕ) → KeyboardOk b → scancode < WORD →
    full_key_fits KEY_TEXT_MOST (get_key b.layout mods num vkey scancode (key_code_of scancode)) ≡ true
layout_fits b mods num vkey scancode ok h = get-key_fits b.layout ok mods num vkey scancode (key_code_of scancode) h

-- ---- from_message

-- the keys that are forced with Control on
forced_named : (named_ok num_lock ≡ true) × (named_ok pause ≡ true)
unfolding named_ok
forced_named = (refl, refl)

forced_code : (b : Bool) (c : KeyCode) → Each KeyFits (code_as_key b c)
unfolding code_as_key assoc
forced_code false c = tt
forced_code true c =
    chosen (Each KeyFits) (eqb (code_number c) _) (named_fits KEY_TEXT_MOST num_lock forced_named.0)
    (chosen (Each KeyFits) (eqb (code_number c) _) (named_fits KEY_TEXT_MOST pause forced_named.1) tt)

pub forced_fits : (b : Keyboard) (scancode : ℕ) → Each KeyFits (forced_key b scancode)
unfolding forced_key
forced_fits b scancode = forced_code (modifiers_in b).control (key_code_of scancode)

module _ (b : Keyboard) (ok : KeyboardOk b) (vkey scancode : ℕ) (h : scancode < WORD) where
  layout-key_fits : KeyFits (layout_key b vkey scancode)
  unfolding layout_key
  layout-key_fits = layout_fits b _ _ vkey scancode ok h

  plain_key_fits : KeyFits (plain_key b vkey scancode)
  unfolding plain_key
  plain_key_fits = layout_fits b _ _ vkey scancode ok h

info-in :
    (n : Info) → n.scancode < WORD → KeyFits n.logical_key → KeyFits n.key_without_modifiers → info_fits n ≡ true
unfolding info_fits
info-in n h a b = rw (lt-ltb n.scancode WORD h, a, b)

pub info-fits : (b : Keyboard) (vkey : ℕ) (l : KeyLParam) → KeyboardOk b → l.scancode < 256 → info_fits (from_message b vkey l) ≡ true
unfolding from_message
info-fits b vkey l ok h =
    let s : ℕ = message_scancode b.layout vkey l in
    let n : s < WORD = message-scancode_below b.layout ok vkey l h in
    info-in (from_message b vkey l) n
    (or-else KeyFits (forced_key b s) (forced_fits b s) (layout-key_fits b ok vkey s n))
    (or-else KeyFits (forced_key b s) (forced_fits b s) (undead_fits (plain_key b vkey s) (plain_key_fits b ok vkey s n)))

pub held_fits_lem :
    (b : Keyboard) (vkey : ℕ) (l : KeyLParam) → KeyboardOk b → vkey < WORD → l.scancode < 256 →
    held_fits (Some (held_of b vkey l)) ≡ true
unfolding held_fits held_of units_fit
held_fits_lem b vkey l ok v h = rw (info-fits b vkey l ok h, lt-ltb vkey WORD v)

-- ---- what a value in range holds

record InfoParts (n : Info) : Type 0 where
  scan : n.scancode < WORD
  logical : KeyFits n.logical_key
  plain : KeyFits n.key_without_modifiers

info_parts : (n : Info) → info_fits n ≡ true → InfoParts n
unfolding info_fits
info_parts n e =
    let a = (and-eq-true_iff (ltb n.scancode WORD) _).0 e in
    let b = (and-eq-true_iff (full_key_fits KEY_TEXT_MOST n.logical_key) _).0 a.1 in
    record { scan = ltb-true n.scancode WORD a.0; logical = b.0; plain = b.1 }

record HeldParts (h : Held) : Type 0 where
  info : info_fits h.info ≡ true
  vkey : ltb h.vkey WORD ≡ true
  units : units_fit h.units ≡ true

held_parts : (h : Held) → held_fits (Some h) ≡ true → HeldParts h
unfolding held_fits
held_parts h e =
    let a = (and-eq-true_iff (info_fits h.info) _).0 e in
    let b = (and-eq-true_iff (ltb h.vkey WORD) _).0 a.1 in record { info = a.0; vkey = b.0; units = b.1 }

-- ---- units

units_in : (us : List ℕ) → Units us → units_fit us ≡ true
unfolding units_fit
units_in [] h = refl
units_in (u ∷ us) h = rw (lt-ltb u WORD h.0) (units_in us h.1)

units-append : (us vs : List ℕ) → units_fit us ≡ true → units_fit vs ≡ true → units_fit (us ++ vs) ≡ true
unfolding units_fit
units-append [] vs a b = b
units-append (u ∷ us) vs a b =
    let p = (and-eq-true_iff (ltb u WORD) (units_fit us)).0 a in rw p.0 (units-append us vs p.1 b)

pub units-fit :
    (h : Held) (w : ℕ) → held_fits (Some h) ≡ true → held_fits (Some (with_units h (char_units w))) ≡ true
unfolding with_units held_fits
units-fit h w e =
    let p = held_parts h e in
    rw (p.info, p.vkey) (units-append h.units (char_units w) p.units (units_in (char_units w) (char-units w).0))

-- ---- finalize

event-in :
    (e : Event) → code_fits e.physical_key ≡ true → full_key_fits TEXT_MOST e.logical_key ≡ true →
    opt_text_fits e.text ≡ true → opt_text_fits e.text_with_all_modifiers ≡ true → KeyFits e.key_without_modifiers →
    event_fits e ≡ true
unfolding event_fits
event-in e a b c d f = rw (a, b, c, d, f)

typed_key_fits :
    (several : Bool) (layout : FullKey) (scancode : ℕ) (o : Option (List ℕ)) → full_key_fits TEXT_MOST layout ≡ true → scancode < WORD →
    opt_text_fits o ≡ true → full_key_fits TEXT_MOST (typed_key several layout scancode o) ≡ true
unfolding typed_key opt_text_fits
typed_key_fits several layout scancode None l s e = unidentified_fits TEXT_MOST scancode s
typed_key_fits several layout scancode (Some t) l s e =
    chosen (λ k. full_key_fits TEXT_MOST k ≡ true) several l (character_fits TEXT_MOST t e)

finalize_fits :
    (h : Held) (several : Bool) (text all : Option (List ℕ)) → held_fits (Some h) ≡ true → opt_text_fits text ≡ true →
    opt_text_fits all ≡ true → event_fits (finalize h several text all) ≡ true
unfolding finalize
finalize_fits h several text all e t a =
    let n = info_parts h.info (held_parts h e).info in
    let l = key_wider h.info.logical_key n.logical in
    event-in (finalize h several text all) (code_fits_lem h.info.scancode n.scan)
    (chosen (λ k. full_key_fits TEXT_MOST k ≡ true) h.mark (typed_key_fits several h.info.logical_key h.info.scancode text l n.scan t) l)
    t a n.plain

no_text : opt_text_fits None ≡ true
unfolding opt_text_fits
no_text = refl

pub press_fits : (h : Held) → held_fits (Some h) ≡ true → event_fits (press_event h) ≡ true
unfolding press_event
press_fits h e = finalize_fits h false None None e no_text no_text

pub dead_fits : (h : Held) → held_fits (Some h) ≡ true → length h.units ≤ UNITS_MOST → event_fits (dead_char_event h) ≡ true
unfolding dead_char_event
dead_fits h e u = finalize_fits h false None (typed_text h.units) e no_text (typed_fits h.units u)

pub last-text_fits :
    (b : Keyboard) (h : Held) → KeyboardOk b → held_fits (Some h) ≡ true → length h.units ≤ UNITS_MOST →
    opt_text_fits (last_text b h) ≡ true
unfolding last_text
last-text_fits b h ok e u =
    let s = (info_parts h.info (held_parts h e).info).scan in
    chosen (λ o. opt_text_fits o ≡ true) (control_counts b)
    (to_text_fits (layout_key b h.vkey h.info.scancode) (layout-key_fits b ok h.vkey h.info.scancode s))
    (typed_fits h.units u)

pub char_fits :
    (b : Keyboard) (r : Table) (h : Held) → KeyboardOk b → held_fits (Some h) ≡ true → length h.units ≤ UNITS_MOST →
    event_fits (char_event b r h) ≡ true
unfolding char_event
char_fits b r h ok e u = finalize_fits h (several_text r (last_text b h)) (last_text b h) (typed_text h.units) e (last-text_fits b h ok e u) (typed_fits h.units u)

pub release_fits : (n : Info) → info_fits n ≡ true → event_fits (release_event n) ≡ true
unfolding release_event
release_fits n e =
    let p = info_parts n e in
    event-in (release_event n) (code_fits_lem n.scancode p.scan) (key_wider n.logical_key p.logical) no_text no_text p.plain

-- ---- focus

focus-text_fits : (st : ElementState) (k : FullKey) → KeyFits k → opt_text_fits (focus_text st k) ≡ true
unfolding focus_text
focus-text_fits Pressed k e = to_text_fits k e
focus-text_fits Released k e = no_text

module _ (b : Keyboard) (st : ElementState) where
  pub synthetic_fits : (vk scancode : ℕ) → KeyboardOk b → scancode < WORD → event_fits (synthetic_event b st vk scancode) ≡ true
  unfolding synthetic_event focus_key
  synthetic_fits vk scancode ok h =
      let k : KeyFits (focus_key b vk scancode) = layout_fits b _ _ vk scancode ok h in
      let t = focus-text_fits st (focus_key b vk scancode) k in
      event-in (synthetic_event b st vk scancode) (code_fits_lem scancode h) (key_wider (focus_key b vk scancode) k) t t
      (plain_key_fits b ok vk scancode h)

  all_synthetic_fit : (vks : List ℕ) → KeyboardOk b → all_fit (synthetic_events b st vks) ≡ true
  unfolding synthetic_events all_fit
  all_synthetic_fit [] ok = refl
  all_synthetic_fit (vk ∷ vks) ok =
      let s = scan_code_for b.layout vk in
      let e = synthetic_fits vk s ok (scan_code_below b.layout ok vk) in
      chosen (λ (es : List Event). all_fit (es ++ synthetic_events b st vks) ≡ true) (written b vk) (rw e (all_synthetic_fit vks ok)) (all_synthetic_fit vks ok)

  synthetic_most : (vks : List ℕ) → length (synthetic_events b st vks) ≤ length vks
  unfolding synthetic_events
  synthetic_most [] = omega arith
  synthetic_most (vk ∷ vks) =
      let h = synthetic_most vks in
      chosen (λ (es : List Event). length (es ++ synthetic_events b st vks) ≤ suc (length vks)) (written b vk) (omega arith) (omega arith)

pub focus_fits : (b : Keyboard) (st : ElementState) → KeyboardOk b → all_fit (focus_events b st) ≡ true
unfolding focus_events
focus_fits b st ok = all_synthetic_fit b st (focus_keys st) ok

-- Caps Lock, the six and the others
keys_length : (st : ElementState) → length (focus_keys st) ≡ 253
unfolding focus_keys modifier_keys others_from is_other assoc
keys_length Pressed = refl
keys_length Released = refl

pub focus_most : (b : Keyboard) (st : ElementState) → length (focus_events b st) ≤ ENTRIES_MOST
unfolding focus_events
focus_most b st = omega (arith, synthetic_most b st (focus_keys st), keys_length st)
