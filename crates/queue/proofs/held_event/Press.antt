-- The press that stands in a session's area: where its fields are, and that what is written behind it leaves it.
-- Assumes nothing.
use mathlib.Core.Path.{◌≡◌, refl, sym, ap, ◌∙◌}
use mathlib.Core.Bool.{true, and-eq-true_iff}
use mathlib.Core.List.{List}
use Prim.Native.Nat.{ℕ, zero, suc, ◌+◌, ◌≤◌, ◌<◌}
use native.Mathlib.Omega.{arith}
use lib.Dec.{eqb, ltb}
use lib.ListN.{length, take, drop, get_or, length-drop}
use lib.Seq.{drop-drop, get_or-drop}
use Rattle.area.specs.Bytes.{num}
use Rattle.area.specs.Splice.{splice}
use Rattle.area.proofs.Bytes.{num-drop, bytes_drop, each-byte}
use Rattle.area.proofs.Splice.{length-splice, part_before}
use Rattle.keys.specs.Location.{location_at}
use Rattle.session.specs.Limits.{TEXT_MOST, KEY_TEXT_MOST, INFO_SIZE, HELD_SIZE, HELD_AT, ENTRIES_AT, ANSWER_EVENTS_AT}
use Rattle.session.specs.Codec.{number, pair, via}
use Rattle.session.specs.Area.{flag, full_key, info, held}
use Rattle.session.proofs.Area.{HeldFits, info-width, held-sound, held-width}
use Rattle.record.proofs.Fields.{pair_got, number-width, flag-width}
use Rattle.record.proofs.Records.{units, info_parts, info_got, held_test, held_got}
use Rattle.record.proofs.complete.Kept.{still}
use Rattle.record.proofs.complete.Keys.{key_kept, logical_size}
use Rattle.queue.specs.Stands.{event_place, FieldStands}
use Rattle.queue.specs.Completing.{held_in, Completing}

-- ---- its fields

parts_got : (l : List ℕ) → ((pair info (pair (number 2) (pair flag units))).get (drop 0 l)).1.1.1 ≡ units.get (drop 71 l)
parts_got l =
    rw (pair_got info (pair (number 2) (pair flag units)) 0 INFO_SIZE l info-width, pair_got (number 2) (pair flag units) 68 2 l (number-width 2), pair_got flag units 70 1 l flag-width)

units_got : (l : List ℕ) → (held.get l).units ≡ units.get (drop 71 l)
unfolding held via
units_got l = parts_got l

module _ (x : List ℕ) where
  pub scancode_in : num 2 HELD_AT x ≡ (held_in x).info.scancode
  scancode_in = rw (held_got (drop HELD_AT x), info_got (drop HELD_AT x), num-drop 2 0 HELD_AT x)

  pub vkey_in : num 2 (HELD_AT + 68) x ≡ (held_in x).vkey
  vkey_in = rw (held_got (drop HELD_AT x), num-drop 2 68 HELD_AT x)

  pub repeat_in : eqb (get_or x (HELD_AT + 2) 0) 1 ≡ (held_in x).info.repeat
  repeat_in = rw (held_got (drop HELD_AT x), info_got (drop HELD_AT x), get_or-drop HELD_AT x 2 0)

  pub location-in : location_at (get_or x (HELD_AT + 3) 0) ≡ (held_in x).info.location
  location-in = rw (held_got (drop HELD_AT x), info_got (drop HELD_AT x), get_or-drop HELD_AT x 3 0)

  pub key_in : (full_key KEY_TEXT_MOST).get (drop (HELD_AT + 4) x) ≡ (held_in x).info.logical_key
  key_in = rw (held_got (drop HELD_AT x), info_got (drop HELD_AT x), drop-drop 4 HELD_AT x)

  pub plain_in : (full_key KEY_TEXT_MOST).get (drop (HELD_AT + 36) x) ≡ (held_in x).info.key_without_modifiers
  plain_in = rw (held_got (drop HELD_AT x), info_got (drop HELD_AT x), drop-drop 36 HELD_AT x)

  pub mark_in : eqb (get_or x (HELD_AT + 70) 0) 1 ≡ (held_in x).mark
  mark_in = rw (held_got (drop HELD_AT x), get_or-drop HELD_AT x 70 0)

  pub units_in : units.get (drop (HELD_AT + 71) x) ≡ (held_in x).units
  units_in = sym (units_got (drop HELD_AT x) ∙ ap units.get (drop-drop 71 HELD_AT x))

-- what its test says of them
module _ (x : List ℕ) (o : held.ok (drop HELD_AT x) ≡ true) where
  tests : (info.ok (drop HELD_AT x) ≡ true) × (units.ok (drop 71 (drop HELD_AT x)) ≡ true)
  tests =
      let l = drop HELD_AT x in
      let a = (and-eq-true_iff (info.ok l) _).0 (sym (held_test l) ∙ o) in
      (a.0, ((and-eq-true_iff (ltb (get_or l 70 0) 2) _).0 a.1).1)

  pub key-ok : (full_key KEY_TEXT_MOST).ok (drop (HELD_AT + 4) x) ≡ true
  key-ok = rw (drop-drop 4 HELD_AT x) at (info_parts (drop HELD_AT x) tests.0).logical_key

  pub plain_ok : (full_key KEY_TEXT_MOST).ok (drop (HELD_AT + 36) x) ≡ true
  plain_ok = rw (drop-drop 36 HELD_AT x) at (info_parts (drop HELD_AT x) tests.0).key_without_modifiers

  pub units-ok : units.ok (drop (HELD_AT + 71) x) ≡ true
  units-ok = rw (drop-drop 71 HELD_AT x) at tests.1

-- ---- its bytes

module _ {x y : List ℕ} {place : ℕ} (b : (i : ℕ) → get_or x i 0 < 256) (c : Completing x y place) where
  pub held_in_range : HeldFits (held_in x)
  held_in_range =
      let s = c.session in
      (held-sound.exact (drop HELD_AT x) (bytes_drop HELD_AT x (each-byte x b)) (omega (arith, length-drop HELD_AT x, held-width)) c.ok).1

  pub plain_bytes : take 32 (drop (HELD_AT + 36) x) ≡ (full_key KEY_TEXT_MOST).put (held_in x).info.key_without_modifiers
  plain_bytes =
      let s = c.session in
      key_kept x b (HELD_AT + 36) (omega arith) (plain_ok x c.ok) ∙ ap (full_key KEY_TEXT_MOST).put (plain_in x)

  pub key-size : length ((full_key TEXT_MOST).put (held_in x).info.logical_key) ≡ 56
  key-size =
      let s = c.session in
      sym (ap (λ k. length ((full_key TEXT_MOST).put k)) (key_in x)) ∙ logical_size x b (HELD_AT + 4) (omega arith) (key-ok x c.ok)

  -- what is written behind it leaves it
  behind :
      (at : ℕ) (t : List ℕ) → ENTRIES_AT ≤ at →
      (held.ok (drop HELD_AT (splice at t x)) ≡ true) × (held_in (splice at t x) ≡ held_in x)
  behind at t h =
      let s = c.session in
      still held-sound HELD_SIZE held-width x b HELD_AT (omega arith) c.ok (drop HELD_AT (splice at t x))
      (part_before HELD_AT HELD_SIZE at t x (omega arith))

-- a part of its event written: the press is the same, and the rest of its event still has room
pub still_completing :
    (place off : ℕ) (t : List ℕ) {x y x' y' : List ℕ} → ((i : ℕ) → get_or x i 0 < 256) → Completing x y place →
    FieldStands place off t x y x' y' → Completing x' y' place × (held_in x' ≡ held_in x)
still_completing zero off t {x} {y} b c f =
    let p = f.first refl in (
      record {
        session = ap length p.0 ∙ c.session;
        answers = ap length p.1 ∙ length-splice (ANSWER_EVENTS_AT + off) t y ∙ c.answers;
        few = c.few;
        ok = ap (λ (z : List ℕ). held.ok (drop HELD_AT z)) p.0 ∙ c.ok;
      },
      ap (λ (z : List ℕ). held_in z) p.0,
    )
still_completing (suc n) off t {x} {y} b c f =
    let p = f.later (λ e. omega arith) in
    let at = event_place (suc n) + off in
    let q = behind b c at t (omega arith) in (
      record {
        session = ap length p.0 ∙ length-splice at t x ∙ c.session;
        answers = ap length p.1 ∙ c.answers;
        few = c.few;
        ok = ap (λ (z : List ℕ). held.ok (drop HELD_AT z)) p.0 ∙ q.0;
      },
      ap (λ (z : List ℕ). held_in z) p.0 ∙ q.1,
    )
