-- Texts and keys that come from typed units and a layout are in the ranges of their types.
-- Assumes nothing.
use Rattle.std.specs.Prelude.{Option, Some, None}
use mathlib.Core.Path.{◌≡◌, refl}
use mathlib.Core.Bool.{Bool, true, false, ◌&&◌, and-eq-true_iff}
use mathlib.Core.List.{List, [], ◌∷◌}
use Prim.Native.Nat.{ℕ, ◌^◌, ◌≤◌, ◌<◌}
use native.Mathlib.Omega.{arith}
use lib.Dec.{eqb, ltb, leb}
use lib.ListN.{length}
use borrow.Author.Tests.{lt-ltb, ltb-true, ltb-false, le-leb, leb-true, eqb-true, ne_eqb}
use Rattle.area.specs.Pick.{pick}
use Rattle.area.proofs.Pick.{no_yes}
use Rattle.area.proofs.Switch.{all_pass, found_passes}
use Rattle.text.specs.Unicode.{well_formed, scalar, utf8_of, text_of, read_from, utf8_step, by_lead, lead_in, table3_7}
use Rattle.text.proofs.Text.{scalar_wellformed, utf8-length, text_wellformed, text-length, text_48}
use Rattle.keys.specs.Places.{first_named}
use Rattle.keys.specs.Native.{native_fits}
use Rattle.keys.specs.Key.{named_ok, key_number, key_fits}
use Rattle.keys.specs.Text.{FullKey, named, character, unidentified, dead, dead_char, bare_of, text_in, to_text}
use Rattle.keys.specs.declared.NativeKeyCode.TheVariants.{Unidentified, Windows}
use Rattle.keys.specs.declared.key_code.KeyCode.{KeyCode}
use Rattle.lookup.specs.Maps.{Maps, MapsOk, value_ok}
use Rattle.lookup.specs.Layout.{get_key}
use Rattle.lookup.proofs.keyboard_layout.Ranges.{InOrder, in_order_lem, get-key-ok}
use Rattle.session.specs.Limits.{UNITS_MOST, TEXT_MOST, KEY_TEXT_MOST}
use Rattle.session.specs.Session.{text_fits, opt_text_fits, full_key_fits}
use Rattle.session.specs.Builder.{undead, typed_text}

-- ---- texts

text_in_lem :
    (most : ℕ) (t : List ℕ) → 0 < length t → length t ≤ most → well_formed t ≡ true → text_fits most t ≡ true
unfolding text_fits
text_in_lem most t a b c = rw (lt-ltb 0 (length t) a, le-leb (length t) most b, c)

record TextParts (most : ℕ) (t : List ℕ) : Type 0 where
  some_bytes : 0 < length t
  within : length t ≤ most
  formed : well_formed t ≡ true

text_parts : (most : ℕ) (t : List ℕ) → text_fits most t ≡ true → TextParts most t
unfolding text_fits
text_parts most t e =
    let a = (and-eq-true_iff (ltb 0 (length t)) _).0 e in
    let b = (and-eq-true_iff (leb (length t) most) _).0 a.1 in
    record {
      some_bytes = ltb-true 0 (length t) a.0;
      within = leb-true (length t) most b.0;
      formed = b.1;
    }

text_wider : (t : List ℕ) → text_fits KEY_TEXT_MOST t ≡ true → text_fits TEXT_MOST t ≡ true
text_wider t e =
    let p = text_parts KEY_TEXT_MOST t e in
    let h = p.within in text_in_lem TEXT_MOST t p.some_bytes (omega arith) p.formed

-- the text of at most 16 units
pub typed_fits : (us : List ℕ) → length us ≤ UNITS_MOST → opt_text_fits (typed_text us) ≡ true
unfolding typed_text opt_text_fits
typed_fits [] h = refl
typed_fits (u ∷ us) h = go (text_of (u ∷ us)) refl
  where
    go : (o : Option (List ℕ)) → text_of (u ∷ us) ≡ o → opt_text_fits o ≡ true
    go None e = refl
    go (Some t) e =
        let l = (text-length (u ∷ us) t e).0 in
        text_in_lem TEXT_MOST t (omega arith) (text_48 (u ∷ us) t e h) (text_wellformed (u ∷ us) t e)

utf8_fits : (c : ℕ) → scalar c ≡ true → text_fits KEY_TEXT_MOST (utf8_of c) ≡ true
utf8_fits c h =
    let l = utf8-length c in
    text_in_lem KEY_TEXT_MOST (utf8_of c) (omega arith) (omega arith) (scalar_wellformed c h).0

-- ---- keys

module _ (most : ℕ) where
  abbrev Fits : FullKey → Type 0
  Fits k = full_key_fits most k ≡ true

  pub named_fits : (n : ℕ) → named_ok n ≡ true → Fits (named n)
  unfolding full_key_fits bare_of key_fits key_number named_ok
  named_fits n e =
      let h = ltb-false n first_named (no_yes (ltb n first_named) _ e).0 in rw (e, ne_eqb n 0 (λ z. omega arith))

  pub character_fits : (t : List ℕ) → text_fits most t ≡ true → Fits (character t)
  unfolding full_key_fits bare_of text_in key_fits key_number
  character_fits t e = e

  pub unidentified_fits : (n : ℕ) → n < 65536 → Fits (unidentified (Windows n))
  unfolding full_key_fits bare_of key_fits key_number native_fits
  unidentified_fits n h = rw (lt-ltb n (2 ^ 16) (omega arith))

  -- a character's text is in range
  character-text : (t : List ℕ) → Fits (character t) → text_fits most t ≡ true
  unfolding full_key_fits bare_of text_in key_fits key_number
  character-text t e = e

-- a key of a layout
abbrev pub KeyFits : FullKey → Type 0
KeyFits k = full_key_fits KEY_TEXT_MOST k ≡ true

-- it may also stand where a typed character may
pub key_wider : (k : FullKey) → KeyFits k → full_key_fits TEXT_MOST k ≡ true
unfolding full_key_fits
key_wider k e = go (eqb (key_number (bare_of k)) 0) ((and-eq-true_iff (key_fits (bare_of k)) _).0 e)
  where
    go :
        (b : Bool) → (key_fits (bare_of k) ≡ true) × (pick b (text_fits KEY_TEXT_MOST (text_in k)) true ≡ true) →
        (key_fits (bare_of k) && pick b (text_fits TEXT_MOST (text_in k)) true) ≡ true
    go true p = rw p.0 (text_wider (text_in k) p.1)
    go false p = rw p.0

bare_fits : KeyFits (unidentified Unidentified)
unfolding full_key_fits bare_of key_fits key_number native_fits
bare_fits = refl

dead-scalar : (c : ℕ) → KeyFits (dead_char c) → scalar c ≡ true
unfolding full_key_fits bare_of key_fits key_number
dead-scalar c e = ((and-eq-true_iff (scalar c) _).0 e).0

-- SCOPE 3.16: a dead key without modifiers becomes its character, one to four bytes
pub undead_fits : (k : FullKey) → KeyFits k → KeyFits (undead k)
unfolding undead
undead_fits (named n) e = e
undead_fits (character t) e = e
undead_fits (unidentified c) e = e
undead_fits dead e = bare_fits
undead_fits (dead_char c) e = character_fits KEY_TEXT_MOST (utf8_of c) (utf8_fits c (dead-scalar c e))

named-text : (n : ℕ) → opt_text_fits (to_text (named n)) ≡ true
unfolding to_text all_pass opt_text_fits text_fits well_formed read_from utf8_step by_lead lead_in table3_7
named-text n = found_passes opt_text_fits _ None n refl refl

-- the text that a key gives
pub to_text_fits : (k : FullKey) → KeyFits k → opt_text_fits (to_text k) ≡ true
unfolding to_text opt_text_fits
to_text_fits (named n) e = named-text n
to_text_fits (character t) e = text_wider t (character-text KEY_TEXT_MOST t e)
to_text_fits (unidentified c) e = refl
to_text_fits dead e = refl
to_text_fits (dead_char c) e = refl

-- ---- a layout's keys

-- a key that passed question 3
value_fits : (k : FullKey) → value_ok k ≡ true → KeyFits k
unfolding full_key_fits
value_fits k e = go (eqb (key_number (bare_of k)) 0) refl
  where
    p : InOrder k
    p = in_order_lem k e

    go :
        (b : Bool) → eqb (key_number (bare_of k)) 0 ≡ b →
        (key_fits (bare_of k) && pick b (text_fits KEY_TEXT_MOST (text_in k)) true) ≡ true
    go true h =
        let z = eqb-true (key_number (bare_of k)) 0 h in
        rw p.fits (text_in_lem KEY_TEXT_MOST (text_in k) (p.filled z) (p.within z) p.formed)
    go false h = rw p.fits

-- get_key's answer
pub get-key_fits :
    (m : Maps) → MapsOk m → (mods : ℕ) (num : Bool) (vkey scancode : ℕ) (code : KeyCode) → scancode < 65536 →
    KeyFits (get_key m mods num vkey scancode code)
get-key_fits m ok mods num vkey scancode code h =
    value_fits (get_key m mods num vkey scancode code) (get-key-ok m ok mods num vkey scancode code h)
