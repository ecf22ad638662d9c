-- A session and its area lead to each other, and so do the events that a call hands out and theirs.
-- Assumes nothing.
use Rattle.std.specs.Prelude.{Option, Some, None}
use mathlib.Core.Path.{◌≡◌, refl, sym, ap, ◌∙◌}
use mathlib.Core.Bool.{Bool, true, false, ◌&&◌, and-eq-true_iff}
use mathlib.Core.List.{List, [], ◌∷◌}
use Prim.Native.Nat.{ℕ, zero, suc, ◌^◌, ◌≤◌, ◌<◌, zero-le}
use native.Mathlib.Omega.{arith}
use lib.Dec.{eqb, ltb, leb}
use lib.ListN.{length, replicate}
use borrow.Author.Tests.{ltb-true, lt-ltb, leb-true, le-leb, eqb-true, eqb-false}
use Rattle.area.specs.Pick.{pick}
use Rattle.area.specs.Bytes.{Bytes}
use Rattle.text.specs.Unicode.{well_formed}
use Rattle.text.proofs.Text.{wellformed_empty, wellformed_bytes}
use Rattle.keys.specs.Key.{key_number, key_aux, key_value, key_at, key_ok, key_fits}
use Rattle.keys.specs.Text.{FullKey, full, bare_of, text_in}
use Rattle.keys.specs.Location.{location_number, location_at, location_cases}
use Rattle.keys.specs.declared.Key.{Key}
use Rattle.keys.specs.declared.Key.TheVariants.{Character}
use Rattle.keys.proofs.Numbers.{location_below, location_back, location_exact, key_back, key_exact, key_below, number-character}
use Rattle.keys.proofs.Full.{full_bare, bare_full, text-character, text_empty, text_none}
use Rattle.lookup.specs.declared.keyboard.KeyLParam.{KeyLParam}
use Rattle.keys.specs.CodeKey.{code_fits, code_key, code_of_key, code_key_ok}
use Rattle.keys.proofs.key_code.CodeKeys.{code-key_back, code-key_exact, code-key_below}
use Rattle.session.specs.Limits.{AREA, OPEN_MOST, ENTRIES_MOST, TOKENS_MOST, UNITS_MOST, TEXT_MOST, KEY_TEXT_MOST, ENTRY_SIZE, EVENT_SIZE, HELD_FIELD_SIZE, HELD_SIZE, INFO_SIZE, WAIT_SIZE, WORD}
use Rattle.session.specs.Codec.{byte, number, nothing, pair, checked, via, slot, Either, left, right, either, list_of}
use Rattle.session.specs.Event.{Event, Info, Held}
use Rattle.session.specs.Session.{Wait, press, release, character, Entry, waiting, complete, Session, fresh_session, token_of, open_count, rising, first_open, units_within, in_order, text_fits, opt_text_fits, full_key_fits, event_fits, all_fit, info_fits, units_fit, held_fits, wait_fits, entry_fits, entries_fit, is_session}
use Rattle.session.specs.Area.{flag_number, flag, state_number, state, location, bytes_of, text_from, text_bytes, opt_text, key_code, key_text_ok, key_fields_ok, full_key, event, info, held, pressed, to_wait, from_wait, wait, to_entry, entry_of, entry, to_held, from_held, held_field, session, encode, decode, session_ok, answer, encode_answer, decode_answer}
use Rattle.session.specs.Answers.{fresh_area}
use Rattle.session.specs.declared.ElementState.{ElementState}
use Rattle.session.specs.declared.ElementState.TheVariants.{Pressed, Released}
use Rattle.session.proofs.Codec.{Sound, sound_as, byte-sound, number-sound, nothing-sound, pair-sound, checked-sound, via-sound, slot-width, slot-sound, OneOf, either-sound, All, list_sound, whole_back, whole_exact, Zeros, number_zeros, nothing_zeros, pair_zeros, via_zeros, slot_zeros, left_zeros, list_zeros}

-- ---- flags and small enums

-- an enum by its number, of n cases
module _
    {A : Type 0} (to : A → ℕ) (from : ℕ → A) (n : ℕ) (h : n ≤ 256) (there : (a : A) → (to a < n) × (from (to a) ≡ a))
    (here : (m : ℕ) → m < n → to (from m) ≡ m) where
  cases_sound : Sound (via to from (checked (λ m. ltb m n) byte)) (λ a. Unit {0})
  cases_sound =
      via-sound to from (checked-sound (λ m. ltb m n) byte-sound)
      (λ a u. let t = there a in ((omega arith, lt-ltb (to a) n t.0), t.1)) (λ m f. (tt, here m (ltb-true m n f.1)))

flag_back : (b : Bool) → (flag_number b < 2) × (eqb (flag_number b) 1 ≡ b)
flag_back true = (omega arith, refl)
flag_back false = (omega arith, refl)

flag_exact : (n : ℕ) → n < 2 → flag_number (eqb n 1) ≡ n
flag_exact zero h = refl
flag_exact (suc zero) h = refl
flag_exact (suc (suc n)) h = absurd (omega arith)

flag-sound : Sound flag (λ b. Unit {0})
unfolding flag
flag-sound = cases_sound flag_number (λ n. eqb n 1) 2 (omega arith) flag_back flag_exact

state_back : (s : ElementState) → (state_number s < 2) × (pick (eqb (state_number s) 0) Pressed Released ≡ s)
unfolding state_number
state_back Pressed = (omega arith, refl)
state_back Released = (omega arith, refl)

state_exact : (n : ℕ) → n < 2 → state_number (pick (eqb n 0) Pressed Released) ≡ n
unfolding state_number
state_exact zero h = refl
state_exact (suc zero) h = refl
state_exact (suc (suc n)) h = absurd (omega arith)

state-sound : Sound state (λ s. Unit {0})
unfolding state
state-sound = cases_sound state_number (λ n. pick (eqb n 0) Pressed Released) 2 (omega arith) state_back state_exact

location-sound : Sound location (λ l. Unit {0})
unfolding location
location-sound =
    cases_sound location_number location_at location_cases (omega arith) (λ l. (location_below l, location_back l)) location_exact

-- ---- texts and keys

all_bytes : (t : List ℕ) → Bytes t → All (λ b. b < 256) t
all_bytes [] b = tt
all_bytes (x ∷ t) b = (b.0, all_bytes t b.1)

text-sound : (most : ℕ) → most < 256 → Sound (text_bytes most) (λ t. (length t ≤ most) × (well_formed t ≡ true))
unfolding text_bytes
text-sound most h =
    sound_as (checked-sound well_formed (list_sound 1 most (omega arith) byte-sound))
    (λ t f. ((f.0, all_bytes t (wellformed_bytes t f.1)), f.1)) (λ t f. (f.0.0, f.1))

module _ (most : ℕ) (t : List ℕ) where
  text_parts : text_fits most t ≡ true → (0 < length t) × (length t ≤ most) × (well_formed t ≡ true)
  unfolding text_fits
  text_parts e =
      let a = (and-eq-true_iff (ltb 0 (length t)) (leb (length t) most && well_formed t)).0 e in
      let b = (and-eq-true_iff (leb (length t) most) (well_formed t)).0 a.1 in
      (ltb-true 0 (length t) a.0, leb-true (length t) most b.0, b.1)

  text-fits : 0 < length t → length t ≤ most → well_formed t ≡ true → text_fits most t ≡ true
  unfolding text_fits
  text-fits a b c = rw (lt-ltb 0 (length t) a, le-leb (length t) most b, c)

opt_back :
    (o : Option (List ℕ)) → opt_text_fits o ≡ true →
    ((length (bytes_of o) ≤ TEXT_MOST) × (well_formed (bytes_of o) ≡ true)) × (text_from (bytes_of o) ≡ o)
unfolding opt_text_fits
opt_back None e = ((zero-le, wellformed_empty), refl)
opt_back (Some []) e = let p = text_parts TEXT_MOST [] e in absurd (omega arith)
opt_back (Some (b ∷ t)) e = let p = text_parts TEXT_MOST (b ∷ t) e in ((p.1, p.2), refl)

opt_exact :
    (t : List ℕ) → (length t ≤ TEXT_MOST) × (well_formed t ≡ true) →
    (opt_text_fits (text_from t) ≡ true) × (bytes_of (text_from t) ≡ t)
unfolding opt_text_fits
opt_exact [] f = (refl, refl)
opt_exact (b ∷ t) f = (text-fits TEXT_MOST (b ∷ t) (omega arith) f.0 f.1, refl)

pub opt_sound : Sound opt_text (λ o. opt_text_fits o ≡ true)
unfolding opt_text
opt_sound = via-sound bytes_of text_from (text-sound TEXT_MOST (omega arith)) opt_back opt_exact

code-sound : Sound key_code (λ c. code_fits c ≡ true)
unfolding key_code
code-sound =
    via-sound code_key code_of_key (checked-sound code_key_ok (number-sound 6))
    (λ c f. let b = code-key_back c f in ((code-key_below (code_key c) b.0, b.0), b.1))
    (λ q f. let e = code-key_exact q f.1 in (e.1, e.0))

-- A key's text by the key's number, where b says whether that is 0.
module _ (most n : ℕ) (t : List ℕ) where
  key-text_back :
      (b : Bool) → eqb n 0 ≡ b → pick b (text_fits most t) true ≡ true → (b ≡ false → t ≡ []) →
      (length t ≤ most) × (well_formed t ≡ true) × (key_text_ok n (length t) ≡ true)
  unfolding key_text_ok
  key-text_back true q e f =
      let p = text_parts most t e in (p.1, p.2, rw (q, lt-ltb 0 (length t) p.0))
  key-text_back false q e f = let z = f refl in rw (q, z) (zero-le, wellformed_empty, refl)

  -- what it then is inside the key k
  key-text_exact :
      (b : Bool) → eqb n 0 ≡ b → length t ≤ most → well_formed t ≡ true → key_text_ok n (length t) ≡ true → (k : Key) →
      key_fits k ≡ true → key_number k ≡ n → (text_in (full k t) ≡ t) × (pick b (text_fits most t) true ≡ true)
  unfolding key_text_ok
  key-text_exact true q l w o k f e =
      let c : k ≡ Character = number-character k f (e ∙ eqb-true n 0 q) in
      (rw c (text-character t), text-fits most t (ltb-true 0 (length t) (rw q at o)) l w)
  key-text_exact false q l w o k f e =
      let z : t ≡ [] = empty t (eqb-true (length t) 0 (rw q at o)) in (rw z (text_empty k), refl)
    where
      empty : (s : List ℕ) → length s ≡ 0 → s ≡ []
      empty [] e = refl
      empty (x ∷ s) e = absurd (omega arith)

abbrev Fields : Type 0
Fields = (ℕ × (ℕ × ℕ)) × List ℕ

-- what the fields of a key are, beside passing their test
abbrev FieldsFit : ℕ → Fields → Type 0
FieldsFit most n =
    ((n.0.0 < 256 ^ 2) × ((n.0.1.0 < 256) × (n.0.1.1 < 256 ^ 4))) × ((length n.1 ≤ most) × (well_formed n.1 ≡ true))

abbrev fields_of : FullKey → Fields
fields_of k = ((key_number (bare_of k), (key_aux (bare_of k), key_value (bare_of k))), text_in k)

abbrev from_fields : Fields → FullKey
from_fields n = full (key_at n.0.0 n.0.1.0 n.0.1.1) n.1

full-key_back :
    (most : ℕ) (k : FullKey) → full_key_fits most k ≡ true →
    (FieldsFit most (fields_of k) × (key_fields_ok (fields_of k) ≡ true)) × (from_fields (fields_of k) ≡ k)
unfolding full_key_fits key_fields_ok
full-key_back most k e =
    let n = key_number (bare_of k) in
    let f = (and-eq-true_iff (key_fits (bare_of k)) (pick (eqb n 0) (text_fits most (text_in k)) true)).0 e in
    let b = key_back (bare_of k) f.0 in
    let l = key_below n (key_aux (bare_of k)) (key_value (bare_of k)) b.1 in
    let t = key-text_back most n (text_in k) (eqb n 0) refl f.1 (λ q. text_none k (eqb-false n 0 q)) in (
      (((omega arith, (l.1, l.2)), (t.0, t.1)), rw b.1 t.2),
      ap (λ (x : Key). full x (text_in k)) b.0 ∙ full_bare k,
    )

-- over the fields one by one
fields_exact :
    (most n aux v : ℕ) (t : List ℕ) → length t ≤ most → well_formed t ≡ true → key_ok n aux v ≡ true →
    key_text_ok n (length t) ≡ true →
    (full_key_fits most (from_fields ((n, (aux, v)), t)) ≡ true) × (fields_of (from_fields ((n, (aux, v)), t)) ≡ ((n, (aux, v)), t))
unfolding full_key_fits
fields_exact most n aux v t l w o p =
    let k = key_at n aux v in
    let e = key_exact n aux v o in
    let h = key-text_exact most n t (eqb n 0) refl l w p k e.3 e.0 in
    rw (bare_full k t, e.0, e.1, e.2, e.3, h.0) (h.1, refl)

full-key_exact :
    (most : ℕ) (n : Fields) → FieldsFit most n × (key_fields_ok n ≡ true) →
    (full_key_fits most (from_fields n) ≡ true) × (fields_of (from_fields n) ≡ n)
unfolding key_fields_ok
full-key_exact most n f =
    let o = (and-eq-true_iff (key_ok n.0.0 n.0.1.0 n.0.1.1) (key_text_ok n.0.0 (length n.1))).0 f.1 in
    fields_exact most n.0.0 n.0.1.0 n.0.1.1 n.1 f.0.1.0 f.0.1.1 o.0 o.1

pub key-sound : (most : ℕ) → most < 256 → Sound (full_key most) (λ k. full_key_fits most k ≡ true)
unfolding full_key
key-sound most h =
    let numbers = pair-sound (number-sound 2) (pair-sound byte-sound (number-sound 4)) in
    via-sound fields_of from_fields (checked-sound key_fields_ok (pair-sound numbers (text-sound most h))) (full-key_back most) (full-key_exact most)

-- ---- an event

event_parts :
    (e : Event) → event_fits e ≡ true →
    (code_fits e.physical_key ≡ true) × (full_key_fits TEXT_MOST e.logical_key ≡ true) × (opt_text_fits e.text ≡ true)
    × (opt_text_fits e.text_with_all_modifiers ≡ true) × (full_key_fits KEY_TEXT_MOST e.key_without_modifiers ≡ true)
unfolding event_fits
event_parts e h =
    let a = (and-eq-true_iff (code_fits e.physical_key) _).0 h in
    let b = (and-eq-true_iff (full_key_fits TEXT_MOST e.logical_key) _).0 a.1 in
    let c = (and-eq-true_iff (opt_text_fits e.text) _).0 b.1 in
    let d = (and-eq-true_iff (opt_text_fits e.text_with_all_modifiers) _).0 c.1 in
    (a.0, b.0, c.0, d.0, d.1)

event-fits :
    (e : Event) → code_fits e.physical_key ≡ true → full_key_fits TEXT_MOST e.logical_key ≡ true →
    opt_text_fits e.text ≡ true → opt_text_fits e.text_with_all_modifiers ≡ true →
    full_key_fits KEY_TEXT_MOST e.key_without_modifiers ≡ true → event_fits e ≡ true
unfolding event_fits
event-fits e a b c d f = rw (a, b, c, d, f)

pub event-sound : Sound event (λ e. event_fits e ≡ true)
unfolding event
event-sound =
    let k = key-sound KEY_TEXT_MOST (omega arith) in
    let l = key-sound TEXT_MOST (omega arith) in
    via-sound _ _
    (pair-sound code-sound (pair-sound l (pair-sound opt_sound (pair-sound location-sound (pair-sound state-sound (pair-sound flag-sound (pair-sound flag-sound (pair-sound opt_sound k))))))))
    (λ e h. let p = event_parts e h in ((p.0, (p.1, (p.2, (tt, (tt, (tt, (tt, (p.3, p.4)))))))), refl))
    (λ n f. (event-fits _ f.0 f.1.0 f.1.1.0 f.1.1.1.1.1.1.1.0 f.1.1.1.1.1.1.1.1, refl))

pub event-width : event.width ≡ EVENT_SIZE
unfolding event via pair number byte flag state checked location key_code full_key text_bytes opt_text list_of
event-width = refl

-- ---- what is kept of a press or a release

info_parts :
    (n : Info) → info_fits n ≡ true →
    (n.scancode < WORD) × (full_key_fits KEY_TEXT_MOST n.logical_key ≡ true) × (full_key_fits KEY_TEXT_MOST n.key_without_modifiers ≡ true)
unfolding info_fits
info_parts n h =
    let a = (and-eq-true_iff (ltb n.scancode WORD) _).0 h in
    let b = (and-eq-true_iff (full_key_fits KEY_TEXT_MOST n.logical_key) _).0 a.1 in
    (ltb-true n.scancode WORD a.0, b.0, b.1)

info-fits :
    (n : Info) → n.scancode < WORD → full_key_fits KEY_TEXT_MOST n.logical_key ≡ true →
    full_key_fits KEY_TEXT_MOST n.key_without_modifiers ≡ true → info_fits n ≡ true
unfolding info_fits
info-fits n a b c = rw (lt-ltb n.scancode WORD a, b, c)

info-sound : Sound info (λ n. info_fits n ≡ true)
unfolding info
info-sound =
    let k = key-sound KEY_TEXT_MOST (omega arith) in
    via-sound _ _ (pair-sound (number-sound 2) (pair-sound flag-sound (pair-sound location-sound (pair-sound k k))))
    (λ n h. let p = info_parts n h in ((p.0, (tt, (tt, (p.1, p.2)))), refl))
    (λ n f. (info-fits _ f.0 f.1.1.1.0 f.1.1.1.1, refl))

pub info-width : info.width ≡ INFO_SIZE
unfolding info via pair number byte flag checked location full_key text_bytes list_of
info-width = refl

units_below : (us : List ℕ) → units_fit us ≡ true → All (λ u. u < 256 ^ 2) us
unfolding units_fit
units_below [] h = tt
units_below (u ∷ us) h =
    let t = (and-eq-true_iff (ltb u WORD) (units_fit us)).0 h in (ltb-true u WORD t.0, units_below us t.1)

units-fit : (us : List ℕ) → All (λ u. u < 256 ^ 2) us → units_fit us ≡ true
unfolding units_fit
units-fit [] h = refl
units-fit (u ∷ us) h = rw (lt-ltb u WORD h.0) (units-fit us h.1)

abbrev pub HeldFits : Held → Type 0
HeldFits h = (held_fits (Some h) ≡ true) × (length h.units ≤ UNITS_MOST)

held_parts : (h : Held) → held_fits (Some h) ≡ true → (info_fits h.info ≡ true) × (h.vkey < WORD) × All (λ u. u < 256 ^ 2) h.units
unfolding held_fits
held_parts h e =
    let a = (and-eq-true_iff (info_fits h.info) _).0 e in
    let b = (and-eq-true_iff (ltb h.vkey WORD) (units_fit h.units)).0 a.1 in
    (a.0, ltb-true h.vkey WORD b.0, units_below h.units b.1)

held_fits_lem : (h : Held) → info_fits h.info ≡ true → h.vkey < WORD → All (λ u. u < 256 ^ 2) h.units → held_fits (Some h) ≡ true
unfolding held_fits
held_fits_lem h a b c = rw (a, lt-ltb h.vkey WORD b) (units-fit h.units c)

pub held-sound : Sound held HeldFits
unfolding held
held-sound =
    via-sound _ _
    (pair-sound info-sound (pair-sound (number-sound 2) (pair-sound flag-sound (list_sound 1 UNITS_MOST (omega arith) (number-sound 2)))))
    (λ h f. let p = held_parts h f.0 in ((p.0, (p.1, (tt, (f.1, p.2)))), refl))
    (λ n f. ((held_fits_lem _ f.0 f.1.0 f.1.1.1.1, f.1.1.1.0), refl))

pub held-width : held.width ≡ HELD_SIZE
unfolding held via pair number flag checked byte list_of
held-width = omega (arith, info-width)

-- ---- an entry

press_parts : (vkey : ℕ) (l : KeyLParam) → wait_fits (press vkey l) ≡ true → (vkey < WORD) × (l.scancode < 256)
unfolding wait_fits
press_parts vkey l h =
    let t = (and-eq-true_iff (ltb vkey WORD) (ltb l.scancode 256)).0 h in
    (ltb-true vkey WORD t.0, ltb-true l.scancode 256 t.1)

press_fits : (vkey : ℕ) (l : KeyLParam) → vkey < WORD → l.scancode < 256 → wait_fits (press vkey l) ≡ true
unfolding wait_fits
press_fits vkey l a b = rw (lt-ltb vkey WORD a, lt-ltb l.scancode 256 b)

pressed-sound : Sound pressed (λ p. wait_fits (press p.0 p.1) ≡ true)
unfolding pressed
pressed-sound =
    via-sound _ _ (pair-sound (number-sound 2) (pair-sound byte-sound (pair-sound flag-sound flag-sound)))
    (λ p h. let t = press_parts p.0 p.1 h in ((t.0, (t.1, (tt, tt))), refl))
    (λ n f. (press_fits _ _ f.0 f.1.0, refl))

abbrev Waits : Type 0
Waits = Either (ℕ × KeyLParam) (Either Info (Unit {0}))

abbrev WaitsFit : Waits → Type 0
WaitsFit = OneOf (λ p. wait_fits (press p.0 p.1) ≡ true) (OneOf (λ n. info_fits n ≡ true) (λ u. Unit {0}))

wait_back : (w : Wait) → wait_fits w ≡ true → WaitsFit (to_wait w) × (from_wait (to_wait w) ≡ w)
unfolding wait_fits
wait_back (press vkey l) h = (h, refl)
wait_back (release n) h = (h, refl)
wait_back character h = (tt, refl)

wait_exact : (w : Waits) → WaitsFit w → (wait_fits (from_wait w) ≡ true) × (to_wait (from_wait w) ≡ w)
unfolding wait_fits
wait_exact (left p) h = (h, refl)
wait_exact (right (left n)) h = (h, refl)
wait_exact (right (right u)) h = (refl, refl)

pressed-width : pressed.width ≤ WAIT_SIZE
unfolding pressed via pair number byte flag checked
pressed-width = omega arith

nothing-width : (w : ℕ) → nothing.width ≤ w
unfolding nothing
nothing-width w = zero-le

waits_width : (slot WAIT_SIZE pressed).width ≡ (either info (slot INFO_SIZE nothing)).width
unfolding slot either
waits_width = ap suc (sym info-width)

wait-sound : Sound wait (λ w. wait_fits w ≡ true)
unfolding wait
wait-sound =
    via-sound to_wait from_wait
    (either-sound waits_width (slot-sound WAIT_SIZE pressed-width pressed-sound) (either-sound (info-width ∙ sym (slot-width INFO_SIZE nothing)) info-sound (slot-sound INFO_SIZE (nothing-width INFO_SIZE) nothing-sound)))
    wait_back wait_exact

abbrev pub EntryFits : Entry → Type 0
EntryFits x = (token_of x < WORD) × (entry_fits x ≡ true)

abbrev EitherFits : Either Wait Event → Type 0
EitherFits = OneOf (λ w. wait_fits w ≡ true) (λ e. event_fits e ≡ true)

entry_back : (x : Entry) → EntryFits x → (((to_entry x).0 < 256 ^ 2) × EitherFits (to_entry x).1) × (entry_of (to_entry x).0 (to_entry x).1 ≡ x)
unfolding entry_fits
entry_back (waiting t w) h = ((h.0, h.1), refl)
entry_back (complete t e) h = ((h.0, h.1), refl)

entry_exact : (t : ℕ) (e : Either Wait Event) → t < 256 ^ 2 → EitherFits e → EntryFits (entry_of t e) × (to_entry (entry_of t e) ≡ (t, e))
unfolding entry_fits
entry_exact t (left w) a b = ((a, b), refl)
entry_exact t (right e) a b = ((a, b), refl)

wait-width : wait.width ≤ EVENT_SIZE
unfolding wait via either slot
wait-width = omega arith

pub entry-sound : Sound entry EntryFits
unfolding entry
entry-sound =
    via-sound to_entry _ (pair-sound (number-sound 2) (either-sound (slot-width EVENT_SIZE wait ∙ sym event-width) (slot-sound EVENT_SIZE wait-width wait-sound) event-sound))
    entry_back (λ p f. entry_exact p.0 p.1 f.0 f.1)

-- ---- the session

abbrev pub OptHeldFits : Option Held → Type 0
OptHeldFits None = Unit {0}
OptHeldFits (Some h) = HeldFits h

opt_held_back : (o : Option Held) → OptHeldFits o → OneOf (λ u. Unit {0}) HeldFits (to_held o) × (from_held (to_held o) ≡ o)
opt_held_back None f = (tt, refl)
opt_held_back (Some h) f = (f, refl)

opt_held_exact :
    (e : Either (Unit {0}) Held) → OneOf (λ u. Unit {0}) HeldFits e → OptHeldFits (from_held e) × (to_held (from_held e) ≡ e)
opt_held_exact (left u) f = (tt, refl)
opt_held_exact (right h) f = (f, refl)

pub opt_held-sound : Sound held_field OptHeldFits
unfolding held_field
opt_held-sound =
    via-sound to_held from_held (either-sound (slot-width HELD_SIZE nothing ∙ sym held-width) (slot-sound HELD_SIZE (nothing-width HELD_SIZE) nothing-sound) held-sound)
    opt_held_back opt_held_exact

abbrev pub SessionFits : Session → Type 0
SessionFits s =
    (s.handed < WORD) × (OptHeldFits s.held × ((length s.entries ≤ ENTRIES_MOST) × All EntryFits s.entries))

pub held-field-width : held_field.width ≡ HELD_FIELD_SIZE
unfolding held_field via either slot
held-field-width = refl

pub entry-width : entry.width ≡ ENTRY_SIZE
unfolding entry via pair number either slot
entry-width = refl

session-sound : Sound session SessionFits
unfolding session
session-sound =
    slot-sound AREA (unfold via pair number list_of in omega (arith, held-field-width, entry-width))
    (via-sound _ _ (pair-sound (number-sound 2) (pair-sound opt_held-sound (list_sound 2 ENTRIES_MOST (omega arith) entry-sound)))
    (λ s f. (f, refl)) (λ p f. (f, refl)))

session-width : session.width ≡ AREA
unfolding session
session-width = slot-width AREA _

-- the tokens are below the number handed out
entries-each :
    (lo hi : ℕ) (es : List Entry) → hi ≤ TOKENS_MOST → rising lo hi es ≡ true → entries_fit es ≡ true → All EntryFits es
unfolding rising entries_fit
entries-each lo hi [] h r f = tt
entries-each lo hi (x ∷ es) h r f =
    let a = (and-eq-true_iff (leb lo (token_of x)) _).0 r in
    let b = (and-eq-true_iff (ltb (token_of x) hi) (rising (suc (token_of x)) hi es)).0 a.1 in
    let c = (and-eq-true_iff (entry_fits x) (entries_fit es)).0 f in
    let l = ltb-true (token_of x) hi b.0 in
    ((omega arith, c.0), entries-each (suc (token_of x)) hi es h b.1 c.1)

entries_fit_lem : (es : List Entry) → All EntryFits es → entries_fit es ≡ true
unfolding entries_fit
entries_fit_lem [] f = refl
entries_fit_lem (x ∷ es) f = rw f.0.1 (entries_fit_lem es f.1)

pub opt_held_fits : (o : Option Held) → held_fits o ≡ true → units_within o ≡ true → OptHeldFits o
unfolding units_within
opt_held_fits None f u = tt
opt_held_fits (Some h) f u = (f, leb-true (length h.units) UNITS_MOST u)

held_in_range : (o : Option Held) → OptHeldFits o → held_fits o ≡ true
unfolding held_fits
held_in_range None f = refl
held_in_range (Some h) f = f.0

order_parts :
    (s : Session) → in_order s ≡ true →
    (rising 0 s.handed s.entries ≡ true) × (length s.entries ≤ ENTRIES_MOST) × (s.handed ≤ TOKENS_MOST) × (units_within s.held ≡ true)
unfolding in_order
order_parts s o =
    let a = (and-eq-true_iff (rising 0 s.handed s.entries) _).0 o in
    let b = (and-eq-true_iff (first_open s.handed s.entries) _).0 a.1 in
    let c = (and-eq-true_iff (leb (open_count s.entries) OPEN_MOST) _).0 b.1 in
    let d = (and-eq-true_iff (leb (length s.entries) ENTRIES_MOST) _).0 c.1 in
    let e = (and-eq-true_iff (leb s.handed TOKENS_MOST) (units_within s.held)).0 d.1 in
    (a.0, leb-true (length s.entries) ENTRIES_MOST d.0, leb-true s.handed TOKENS_MOST e.0, e.1)

pub session_parts : (s : Session) → is_session s ≡ true → (in_order s ≡ true) × SessionFits s
unfolding is_session
session_parts s h =
    let a = (and-eq-true_iff (in_order s) _).0 h in
    let b = (and-eq-true_iff (entries_fit s.entries) (held_fits s.held)).0 a.1 in
    let p = order_parts s a.0 in
    let l = p.2 in
    (a.0, (omega arith, (opt_held_fits s.held b.1 p.3, (p.1, entries-each 0 s.handed s.entries l p.0 b.0))))

session_fits : (s : Session) → in_order s ≡ true → SessionFits s → is_session s ≡ true
unfolding is_session
session_fits s o f = rw (o, entries_fit_lem s.entries f.1.1.1) (held_in_range s.held f.1.0)

pub session_back :
    (s : Session) → is_session s ≡ true →
    (length (encode s) ≡ AREA) × (session_ok (encode s) ≡ true) × (decode (encode s) ≡ s)
unfolding encode decode session_ok
session_back s h =
    let f = session_parts s h in
    let b = whole_back session-sound s f.1 in
    (b.0 ∙ session-width, rw (b.1, b.2) f.0, b.2)

pub session_exact :
    (x : List ℕ) → Bytes x → length x ≡ AREA → session_ok x ≡ true →
    (is_session (decode x) ≡ true) × (encode (decode x) ≡ x)
unfolding encode decode session_ok
session_exact x b h o =
    let t = (and-eq-true_iff (session.ok x) (in_order (session.get x))).0 o in
    let e = whole_exact session-sound x b (h ∙ sym session-width) t.0 in
    (session_fits (session.get x) t.1 e.0, e.1)

-- ---- the answer area

answer-sound : Sound answer (λ es. (length es ≤ ENTRIES_MOST) × All (λ e. event_fits e ≡ true) es)
unfolding answer
answer-sound =
    slot-sound AREA (unfold list_of in omega (arith, event-width)) (list_sound 2 ENTRIES_MOST (omega arith) event-sound)

answer-width : answer.width ≡ AREA
unfolding answer
answer-width = slot-width AREA _

pub events-each : (es : List Event) → all_fit es ≡ true → All (λ e. event_fits e ≡ true) es
unfolding all_fit
events-each [] h = tt
events-each (e ∷ es) h = let t = (and-eq-true_iff (event_fits e) (all_fit es)).0 h in (t.0, events-each es t.1)

pub answer_back :
    (es : List Event) → length es ≤ ENTRIES_MOST → all_fit es ≡ true →
    (length (encode_answer es) ≡ AREA) × (decode_answer (encode_answer es) ≡ es)
unfolding encode_answer decode_answer
answer_back es h f =
    let b = whole_back answer-sound es (h, events-each es f) in (b.0 ∙ answer-width, b.2)

-- ---- a fresh session

fresh_zeros : Zeros session fresh_session
unfolding session held_field fresh_session
fresh_zeros =
    slot_zeros AREA _ _ (unfold via pair number list_of in omega (arith, held-field-width, entry-width))
    (via_zeros _ _ _ _ (pair_zeros _ _ _ _ (number_zeros 2) (pair_zeros _ _ _ _ (via_zeros _ _ _ _ (left_zeros _ _ _ (slot_zeros HELD_SIZE _ _ (nothing-width HELD_SIZE) nothing_zeros))) (list_zeros 2 ENTRIES_MOST _))))

pub fresh-area : encode fresh_session ≡ fresh_area
unfolding encode fresh_area
fresh-area = fresh_zeros ∙ ap (λ (n : ℕ). replicate {A = ℕ} n 0) session-width

-- each session has just one area
pub one-area :
    (x y : List ℕ) → Bytes x → Bytes y → length x ≡ AREA → length y ≡ AREA → session_ok x ≡ true → session_ok y ≡ true → decode x ≡ decode y → x ≡ y
one-area x y bx by lx ly ox oy e = sym (session_exact x bx lx ox).1 ∙ ap encode e ∙ (session_exact y by ly oy).1
