-- The records of the areas, each in plain terms: where its fields stand, and what the test of its bytes is.
-- Assumes nothing.
use mathlib.Core.Path.{◌≡◌, refl, sym, ap, ◌∙◌}
use mathlib.Core.Bool.{Bool, true, false, ◌&&◌, and-eq-true_iff}
use mathlib.Core.List.{List}
use Prim.Native.Nat.{ℕ, ◌+◌, ◌-◌, ◌*◌, ◌≤◌}
use native.Mathlib.Omega.{arith}
use lib.Dec.{eqb, ltb, leb}
use lib.ListN.{take, drop, get_or}
use lib.Seq.{drop-drop, get_or-drop}
use Rattle.area.specs.Pick.{pick}
use Rattle.area.specs.Bytes.{num}
use Rattle.area.specs.Zero.{all_zero}
use Rattle.keys.specs.Location.{location_at}
use Rattle.keys.specs.declared.KeyLocation.{KeyLocation}
use Rattle.session.specs.Limits.{UNITS_MOST, TEXT_MOST, KEY_TEXT_MOST, INFO_SIZE}
use Rattle.session.specs.Codec.{Codec, byte, number, pair, via, get_many, list_of}
use Rattle.session.specs.Area.{flag, state, location, text_from, text_bytes, opt_text, key_code, full_key, event, info, held, pressed}
use Rattle.session.specs.declared.ElementState.{ElementState}
use Rattle.session.specs.declared.ElementState.TheVariants.{Pressed, Released}
use Rattle.session.proofs.Area.{info-width}
use Rattle.record.proofs.Fields.{pair_test, pairs, pair_got, byte_at, flag_at, state_at, location-at, number_at, flag_test, state_test, location_test, number_test, byte_width, number-width, flag-width, state-width, location-width, code-width, text-width, key-width, count-ok, count_got, list_test, opt_ok, opt_got}

-- ---- location, state, repeat, synthetic

abbrev pub marks : Codec (KeyLocation × (ElementState × (Bool × Bool)))
marks = pair location (pair state (pair flag flag))

marks_parts :
    (k : ℕ) (l : List ℕ) →
    marks.ok (drop k l) ≡
    (location.ok (drop k l) && (state.ok (drop (k + 1) l) && (flag.ok (drop (k + 1 + 1) l) && flag.ok (drop (k + 1 + 1 + 1) l))))
marks_parts k l =
    pairs location _ k 1 l location-width (pairs state _ (k + 1) 1 l state-width (pair_test flag flag (k + 1 + 1) 1 l flag-width))

pub marks_test :
    (l : List ℕ) → marks.ok l ≡ (ltb (get_or l 0 0) 4 && (ltb (get_or l 1 0) 2 && (ltb (get_or l 2 0) 2 && ltb (get_or l 3 0) 2)))
marks_test l = marks_parts 0 l ∙ rw (location_test 0 l, state_test 1 l, flag_test 2 l, flag_test 3 l)

marks_first : (a b c d e : Bool) → (a && (b && (c && (d && e)))) ≡ ((a && (b && (c && d))) && e)
marks_first true true true d e = refl
marks_first true true false d e = refl
marks_first true false c d e = refl
marks_first false b c d e = refl

-- the four marks at k, and what stands behind
marks_then :
    {A : Type 0} (Z : Codec A) (k : ℕ) (l : List ℕ) {z : Bool} → Z.ok (drop (k + 1 + 1 + 1 + 1) l) ≡ z →
    (pair location (pair state (pair flag (pair flag Z)))).ok (drop k l) ≡ (marks.ok (drop k l) && z)
marks_then Z k l {z} e =
    pairs location _ k 1 l location-width (pairs state _ (k + 1) 1 l state-width (pairs flag _ (k + 1 + 1) 1 l flag-width (pairs flag Z (k + 1 + 1 + 1) 1 l flag-width e)))
    ∙ marks_first (location.ok (drop k l)) (state.ok (drop (k + 1) l)) (flag.ok (drop (k + 1 + 1) l)) (flag.ok (drop (k + 1 + 1 + 1) l)) z
    ∙ ap (λ (t : Bool). t && z) (sym (marks_parts k l))

-- ---- an event

module _ (l : List ℕ) where
  -- what is left of the test behind the marks, the text, the logical key, the key code
  abbrev pub behind_marks : Bool
  behind_marks = opt_text.ok (drop 115 l) && (full_key KEY_TEXT_MOST).ok (drop 164 l)

  abbrev pub behind-text : Bool
  behind-text = marks.ok (drop 111 l) && behind_marks

  abbrev pub behind-key : Bool
  behind-key = opt_text.ok (drop 62 l) && behind-text

  abbrev pub behind-code : Bool
  behind-code = (full_key TEXT_MOST).ok (drop 6 l) && behind-key

  pub event_test : event.ok l ≡ (key_code.ok l && behind-code)
  unfolding event via
  event_test =
      pairs key_code _ 0 6 l code-width (pairs (full_key TEXT_MOST) _ 6 56 l (key-width TEXT_MOST) (pairs opt_text _ 62 49 l text-width (marks_then _ 111 l (pair_test opt_text (full_key KEY_TEXT_MOST) 115 49 l text-width))))

pub record EventParts (l : List ℕ) : Type 0 where
  pub logical_key : (full_key TEXT_MOST).ok (drop 6 l) ≡ true
  pub text : (text_bytes TEXT_MOST).ok (drop 62 l) ≡ true
  pub text_with_all_modifiers : (text_bytes TEXT_MOST).ok (drop 115 l) ≡ true
  pub key_without_modifiers : (full_key KEY_TEXT_MOST).ok (drop 164 l) ≡ true

pub event_parts : (l : List ℕ) → event.ok l ≡ true → EventParts l
event_parts l o =
    let a = (and-eq-true_iff (key_code.ok l) _).0 (sym (event_test l) ∙ o) in
    let b = (and-eq-true_iff ((full_key TEXT_MOST).ok (drop 6 l)) _).0 a.1 in
    let c = (and-eq-true_iff (opt_text.ok (drop 62 l)) _).0 b.1 in
    let d = (and-eq-true_iff (marks.ok (drop 111 l)) _).0 c.1 in
    let e = (and-eq-true_iff (opt_text.ok (drop 115 l)) _).0 d.1 in
    record { logical_key = b.0; text = sym (opt_ok (drop 62 l)) ∙ c.0; text_with_all_modifiers = sym (opt_ok (drop 115 l)) ∙ e.0; key_without_modifiers = e.1 }

pub event_got :
    (l : List ℕ) → event.get l ≡ record {
      physical_key = key_code.get l;
      logical_key = (full_key TEXT_MOST).get (drop 6 l);
      text = text_from ((text_bytes TEXT_MOST).get (drop 62 l));
      location = location_at (get_or l 111 0);
      state = pick (eqb (get_or l 112 0) 0) Pressed Released;
      repeat = eqb (get_or l 113 0) 1;
      synthetic = eqb (get_or l 114 0) 1;
      text_with_all_modifiers = text_from ((text_bytes TEXT_MOST).get (drop 115 l));
      key_without_modifiers = (full_key KEY_TEXT_MOST).get (drop 164 l);
    }
unfolding event via
event_got l =
    rw (pair_got key_code _ 0 6 l code-width, pair_got (full_key TEXT_MOST) _ 6 56 l (key-width TEXT_MOST), pair_got opt_text _ 62 49 l text-width, pair_got location _ 111 1 l location-width, pair_got state _ 112 1 l state-width, pair_got flag _ 113 1 l flag-width, pair_got flag _ 114 1 l flag-width, pair_got opt_text _ 115 49 l text-width, opt_got (drop 62 l), opt_got (drop 115 l), location-at 111 l, state_at 112 l, flag_at 113 l, flag_at 114 l)

-- ---- what is kept of a press or a release

pub info_test :
    (l : List ℕ) →
    info.ok l ≡ (ltb (get_or l 2 0) 2 && (ltb (get_or l 3 0) 4 && ((full_key KEY_TEXT_MOST).ok (drop 4 l) && (full_key KEY_TEXT_MOST).ok (drop 36 l))))
unfolding info via
info_test l =
    pairs (number 2) _ 0 2 l (number-width 2) (pairs flag _ 2 1 l flag-width (pairs location _ 3 1 l location-width (pair_test (full_key KEY_TEXT_MOST) (full_key KEY_TEXT_MOST) 4 32 l (key-width KEY_TEXT_MOST))))
    ∙ rw (number_test 2 l, flag_test 2 l, location_test 3 l)

pub record InfoParts (l : List ℕ) : Type 0 where
  pub logical_key : (full_key KEY_TEXT_MOST).ok (drop 4 l) ≡ true
  pub key_without_modifiers : (full_key KEY_TEXT_MOST).ok (drop 36 l) ≡ true

pub info_parts : (l : List ℕ) → info.ok l ≡ true → InfoParts l
info_parts l o =
    let a = (and-eq-true_iff (ltb (get_or l 2 0) 2) _).0 (sym (info_test l) ∙ o) in
    let b = (and-eq-true_iff (ltb (get_or l 3 0) 4) _).0 a.1 in
    let c = (and-eq-true_iff ((full_key KEY_TEXT_MOST).ok (drop 4 l)) _).0 b.1 in
    record { logical_key = c.0; key_without_modifiers = c.1 }

pub info_got :
    (l : List ℕ) → info.get l ≡ record {
      scancode = num 2 0 l;
      repeat = eqb (get_or l 2 0) 1;
      location = location_at (get_or l 3 0);
      logical_key = (full_key KEY_TEXT_MOST).get (drop 4 l);
      key_without_modifiers = (full_key KEY_TEXT_MOST).get (drop 36 l);
    }
unfolding info via
info_got l =
    rw (pair_got (number 2) _ 0 2 l (number-width 2), pair_got flag _ 2 1 l flag-width, pair_got location _ 3 1 l location-width, pair_got (full_key KEY_TEXT_MOST) _ 4 32 l (key-width KEY_TEXT_MOST), number_at 0 l 2, flag_at 2 l, location-at 3 l)

-- ---- a held press

-- its units: their number, two bytes for each, zeros behind
abbrev pub units : Codec (List ℕ)
units = list_of 1 UNITS_MOST (number 2)

pub units_test :
    (l : List ℕ) →
    units.ok l ≡ (leb (get_or l 0 0) UNITS_MOST && all_zero (take (1 + 2 * UNITS_MOST - (1 + 2 * get_or l 0 0)) (drop (1 + 2 * get_or l 0 0) l)))
units_test l =
    let n = get_or l 0 0 in
    let a : (UNITS_MOST - n) * 2 ≡ 1 + 2 * UNITS_MOST - (1 + 2 * n) = omega arith in
    let b : 1 + n * 2 ≡ 1 + 2 * n = omega arith in
    list_test (number 2) (number_test 2) UNITS_MOST l ∙ rw (number-width 2, a, b)

pub held_test : (l : List ℕ) → held.ok l ≡ (info.ok l && (ltb (get_or l 70 0) 2 && units.ok (drop 71 l)))
unfolding held via
held_test l =
    pairs info _ 0 INFO_SIZE l info-width (pairs (number 2) _ 68 2 l (number-width 2) (pair_test flag units 70 1 l flag-width))
    ∙ rw (number_test 2 (drop 68 l), flag_test 70 l)

pub record HeldParts (l : List ℕ) : Type 0 where
  pub info : (Rattle.session.specs.Area.info).ok l ≡ true
  pub units : get_or l 71 0 ≤ UNITS_MOST

pub held_parts : (l : List ℕ) → held.ok l ≡ true → HeldParts l
held_parts l o =
    let a = (and-eq-true_iff (info.ok l) _).0 (sym (held_test l) ∙ o) in
    let b = (and-eq-true_iff (ltb (get_or l 70 0) 2) _).0 a.1 in
    record { info = a.0; units = rw (get_or-drop 71 l 0 0) at (count-ok UNITS_MOST (number 2) (drop 71 l) b.1) }

pub held_got :
    (l : List ℕ) → held.get l ≡ record {
      info = info.get l;
      vkey = num 2 68 l;
      mark = eqb (get_or l 70 0) 1;
      units = get_many (number 2) (get_or l 71 0) (drop 72 l);
    }
unfolding held via
held_got l =
    rw (pair_got info _ 0 INFO_SIZE l info-width, pair_got (number 2) _ 68 2 l (number-width 2), pair_got flag _ 70 1 l flag-width, number_at 68 l 2, flag_at 70 l, count_got UNITS_MOST (number 2) (drop 71 l), get_or-drop 71 l 0 0, drop-drop 1 71 l)

-- ---- an open press

pub pressed_test : (l : List ℕ) → pressed.ok l ≡ (ltb (get_or l 3 0) 2 && ltb (get_or l 4 0) 2)
unfolding pressed via number byte
pressed_test l =
    pairs (number 2) _ 0 2 l (number-width 2) (pairs byte _ 2 1 l refl (pair_test flag flag 3 1 l flag-width))
    ∙ rw (flag_test 3 l, flag_test 4 l)

pub pressed_got :
    (l : List ℕ) → pressed.get l ≡ (num 2 0 l, record { scancode = get_or l 2 0; extended = eqb (get_or l 3 0) 1; is_repeat = eqb (get_or l 4 0) 1 })
unfolding pressed via
pressed_got l =
    rw (pair_got (number 2) _ 0 2 l (number-width 2), pair_got byte _ 2 1 l byte_width, pair_got flag _ 3 1 l flag-width, number_at 0 l 2, byte_at 2 l, flag_at 3 l, flag_at 4 l)
