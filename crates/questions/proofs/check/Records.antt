-- The marks of an event, what is kept of a press or a release, the held press: what the tests on their bytes say. A way out of a check is named as in Keys.
-- Assumes nothing.
use mathlib.Core.Path.{◌≡◌, sym, ◌∙◌}
use mathlib.Core.Bool.{Bool, true, false, ◌&&◌}
use mathlib.Core.List.{List}
use Prim.Native.Nat.{ℕ, ◌+◌, ◌-◌, ◌*◌, ◌≤◌, ◌<◌}
use native.Mathlib.Omega.{arith}
use lib.Dec.{ltb}
use lib.ListN.{length, take, drop, get_or}
use borrow.Author.Tests.{lt-ltb, le-ltb, le-leb, lt-leb}
use Rattle.area.specs.Zero.{all_zero}
use Rattle.session.specs.Limits.{UNITS_MOST, KEY_TEXT_MOST}
use Rattle.session.specs.Area.{full_key, info, held, pressed}
use Rattle.record.proofs.Records.{marks, marks_test, info_test, units, units_test, held_test, pressed_test}
use Rattle.questions.proofs.check.Tests.{stop, next, stop_by, next_by, cut}

-- a byte past the last case m, and one of the cases
over : (m : ℕ) {x : ℕ} → m < x → ltb x (m + 1) ≡ false
over m {x} h = le-ltb x (m + 1) (omega arith)

within : (m : ℕ) {x : ℕ} → x ≤ m → ltb x (m + 1) ≡ true
within m {x} h = lt-ltb x (m + 1) (omega arith)

-- ---- location, state, repeat, synthetic

module _ (l : List ℕ) where
  pub marks_location : 3 < get_or l 0 0 → false ≡ marks.ok l
  marks_location h = stop _ _ (marks_test l) (over 3 h)

  module _ (a : get_or l 0 0 ≤ 3) where
    pub marks_state : 1 < get_or l 1 0 → false ≡ marks.ok l
    marks_state h = stop _ _ (next _ _ (marks_test l) (within 3 a)) (over 1 h)

    module _ (b : get_or l 1 0 ≤ 1) where
      pub marks_repeat : 1 < get_or l 2 0 → false ≡ marks.ok l
      marks_repeat h = stop _ _ (next _ _ (next _ _ (marks_test l) (within 3 a)) (within 1 b)) (over 1 h)

      pub marks_end : get_or l 2 0 ≤ 1 → ltb (get_or l 3 0) 2 ≡ marks.ok l
      marks_end h = sym (next _ _ (next _ _ (next _ _ (marks_test l) (within 3 a)) (within 1 b)) (within 1 h))

-- ---- what is kept of a press or a release

module _ (l : List ℕ) where
  pub info-repeat : 1 < get_or l 2 0 → false ≡ info.ok l
  info-repeat h = stop _ _ (info_test l) (over 1 h)

  module _ (a : get_or l 2 0 ≤ 1) where
    pub info-location : 3 < get_or l 3 0 → false ≡ info.ok l
    info-location h = stop _ _ (next _ _ (info_test l) (within 1 a)) (over 3 h)

    module _ (b : get_or l 3 0 ≤ 3) (k : Bool) (ke : k ≡ (full_key KEY_TEXT_MOST).ok (take (length l - 4) (drop 4 l))) where
      keys : info.ok l ≡ ((full_key KEY_TEXT_MOST).ok (drop 4 l) && (full_key KEY_TEXT_MOST).ok (drop 36 l))
      keys = next _ _ (next _ _ (info_test l) (within 1 a)) (within 3 b)

      pub info-key : k ≡ false → false ≡ info.ok l
      info-key q = stop_by _ _ keys (cut (full_key KEY_TEXT_MOST).ok 4 l ke) q

      pub info_end : k ≡ true → (m : Bool) → m ≡ (full_key KEY_TEXT_MOST).ok (take (length l - 36) (drop 36 l)) → m ≡ info.ok l
      info_end q m me = cut (full_key KEY_TEXT_MOST).ok 36 l me ∙ sym (next_by _ _ keys (cut (full_key KEY_TEXT_MOST).ok 4 l ke) q)

-- ---- a held press

module _ (l : List ℕ) where
  pub units_long : UNITS_MOST < get_or l 0 0 → false ≡ units.ok l
  units_long h = stop _ _ (units_test l) (lt-leb (get_or l 0 0) UNITS_MOST h)

  pub units_end :
      get_or l 0 0 ≤ UNITS_MOST → (r : Bool) →
      r ≡ all_zero (take (1 + 2 * UNITS_MOST - (1 + 2 * get_or l 0 0)) (drop (1 + 2 * get_or l 0 0) l)) → r ≡ units.ok l
  units_end h r e = e ∙ sym (next _ _ (units_test l) (le-leb (get_or l 0 0) UNITS_MOST h))

  module _ (a : Bool) (ae : a ≡ info.ok l) where
    pub held-info : a ≡ false → false ≡ held.ok l
    held-info q = stop_by _ _ (held_test l) ae q

    module _ (aq : a ≡ true) where
      pub held-mark : 1 < get_or l 70 0 → false ≡ held.ok l
      held-mark h = stop _ _ (next_by _ _ (held_test l) ae aq) (over 1 h)

      pub held_end : get_or l 70 0 ≤ 1 → (r : Bool) → r ≡ units.ok (take (length l - 71) (drop 71 l)) → r ≡ held.ok l
      held_end h r e = cut units.ok 71 l e ∙ sym (next _ _ (next_by _ _ (held_test l) ae aq) (within 1 h))

-- ---- an open press

module _ (l : List ℕ) where
  pub pressed_extended : 1 < get_or l 3 0 → false ≡ pressed.ok l
  pressed_extended h = stop _ _ (pressed_test l) (over 1 h)

  pub pressed_end : get_or l 3 0 ≤ 1 → ltb (get_or l 4 0) 2 ≡ pressed.ok l
  pressed_end h = sym (next _ _ (pressed_test l) (within 1 h))
