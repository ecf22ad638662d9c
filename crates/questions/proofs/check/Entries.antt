-- An open message, an entry, entries one behind the other, the held press: what the tests on their bytes say.
-- Assumes nothing.
use mathlib.Core.Path.{◌≡◌, refl, sym, ap, ◌∙◌}
use mathlib.Core.Bool.{Bool, true, false, ◌&&◌}
use mathlib.Core.List.{List}
use Prim.Native.Nat.{ℕ, suc, ◌+◌, ◌-◌, ◌*◌, ◌≤◌, ◌<◌}
use native.Mathlib.Omega.{arith}
use lib.ListN.{length, take, drop, get_or}
use lib.Seq.{drop-drop, get_or-drop}
use Rattle.area.specs.Zero.{all_zero}
use Rattle.session.specs.Limits.{ENTRY_SIZE, EVENT_SIZE, HELD_SIZE, INFO_SIZE, WAIT_SIZE}
use Rattle.session.specs.Codec.{Codec, byte, number, nothing, pair, checked, via, slot, either, ok_many}
use Rattle.session.specs.Area.{flag, event, info, held, pressed, wait, entry, held_field}
use Rattle.session.proofs.Area.{entry-width}
use Rattle.record.proofs.read.Walk.{next_place}
use Rattle.questions.proofs.check.Tests.{stop_by, next_by, cut, is_left, is_right, is_none, slot_ok, blank}

-- ---- what an open message needs

press-width : pressed.width ≡ 5
unfolding pressed via pair number byte flag checked
press-width = refl

module _ (l : List ℕ) where
  module _ (a : get_or l 0 0 ≡ 0) {b : Bool} (e : b ≡ pressed.ok (take (length l - 1) (drop 1 l))) where
    a_press : wait.ok l ≡ (pressed.ok (drop 1 l) && all_zero (take (WAIT_SIZE - 5) (drop 6 l)))
    unfolding wait via
    a_press =
        is_left (slot WAIT_SIZE pressed) (either info (slot INFO_SIZE nothing)) l a
        ∙ slot_ok WAIT_SIZE 5 pressed (drop 1 l) press-width
        ∙ ap (λ (t : List ℕ). pressed.ok (drop 1 l) && all_zero (take (WAIT_SIZE - 5) t)) (drop-drop 5 1 l)

    pub no_press : b ≡ false → false ≡ wait.ok l
    no_press = stop_by _ _ a_press (cut pressed.ok 1 l e)

    pub is_press : {z : Bool} → b ≡ true → z ≡ all_zero (take (WAIT_SIZE - 5) (drop 6 l)) → z ≡ wait.ok l
    is_press h f = f ∙ sym (next_by _ _ a_press (cut pressed.ok 1 l e) h)

  pub no_wait : (get_or l 0 0 ≡ 0 → ⊥) → (get_or l 0 0 ≡ 1 → ⊥) → false ≡ wait.ok l
  unfolding wait via
  no_wait a b = sym (is_none (slot WAIT_SIZE pressed) (either info (slot INFO_SIZE nothing)) l a b)

  module _ (a : get_or l 0 0 ≡ 1) where
    behind : wait.ok l ≡ (either info (slot INFO_SIZE nothing)).ok (drop 1 l)
    unfolding wait via
    behind = is_right (slot WAIT_SIZE pressed) (either info (slot INFO_SIZE nothing)) l a

    pub is_release : {b : Bool} → get_or l 1 0 ≡ 0 → b ≡ info.ok (take (length l - 2) (drop 2 l)) → b ≡ wait.ok l
    is_release c e =
        cut info.ok 2 l e
        ∙ sym (behind ∙ is_left info (slot INFO_SIZE nothing) (drop 1 l) (get_or-drop 1 l 0 0 ∙ c) ∙ ap info.ok (drop-drop 1 1 l))

    pub is-character : {z : Bool} → get_or l 1 0 ≡ 1 → z ≡ all_zero (take INFO_SIZE (drop 2 l)) → z ≡ wait.ok l
    is-character c f =
        f
        ∙ sym (behind ∙ is_right info (slot INFO_SIZE nothing) (drop 1 l) (get_or-drop 1 l 0 0 ∙ c) ∙ blank INFO_SIZE (drop 1 (drop 1 l)) ∙ ap (λ (t : List ℕ). all_zero (take INFO_SIZE t)) (drop-drop 1 1 l))

    pub no_behind : (get_or l 1 0 ≡ 0 → ⊥) → (get_or l 1 0 ≡ 1 → ⊥) → false ≡ wait.ok l
    no_behind b c =
        let d = get_or-drop 1 l 0 0 in
        sym (behind ∙ is_none info (slot INFO_SIZE nothing) (drop 1 l) (λ e. b (sym d ∙ e)) (λ e. c (sym d ∙ e)))

-- ---- an entry

wait-width : wait.width ≡ 1 + WAIT_SIZE
unfolding wait via either slot
wait-width = refl

module _ (l : List ℕ) where
  body : entry.ok l ≡ (either (slot EVENT_SIZE wait) event).ok (drop 2 l)
  unfolding entry via pair number
  body = refl

  module _ (a : get_or l 2 0 ≡ 0) {b : Bool} (e : b ≡ wait.ok (take (length l - 3) (drop 3 l))) where
    a_wait : entry.ok l ≡ (wait.ok (drop 3 l) && all_zero (take (EVENT_SIZE - (1 + WAIT_SIZE)) (drop 73 l)))
    a_wait =
        body
        ∙ is_left (slot EVENT_SIZE wait) event (drop 2 l) (get_or-drop 2 l 0 0 ∙ a)
        ∙ slot_ok EVENT_SIZE (1 + WAIT_SIZE) wait (drop 1 (drop 2 l)) wait-width
        ∙ rw (drop-drop 1 2 l, drop-drop 70 3 l)

    pub no_open : b ≡ false → false ≡ entry.ok l
    no_open = stop_by _ _ a_wait (cut wait.ok 3 l e)

    pub is_open : {z : Bool} → b ≡ true → z ≡ all_zero (take (EVENT_SIZE - (1 + WAIT_SIZE)) (drop 73 l)) → z ≡ entry.ok l
    is_open h f = f ∙ sym (next_by _ _ a_wait (cut wait.ok 3 l e) h)

  pub is_complete : {b : Bool} → get_or l 2 0 ≡ 1 → b ≡ event.ok (take (length l - 3) (drop 3 l)) → b ≡ entry.ok l
  is_complete a e =
      cut event.ok 3 l e
      ∙ sym (body ∙ is_right (slot EVENT_SIZE wait) event (drop 2 l) (get_or-drop 2 l 0 0 ∙ a) ∙ ap event.ok (drop-drop 1 2 l))

  pub no_entry : (get_or l 2 0 ≡ 0 → ⊥) → (get_or l 2 0 ≡ 1 → ⊥) → false ≡ entry.ok l
  no_entry a b =
      let d = get_or-drop 2 l 0 0 in
      sym (body ∙ is_none (slot EVENT_SIZE wait) event (drop 2 l) (λ e. a (sym d ∙ e)) (λ e. b (sym d ∙ e)))

-- ---- the held press

module _ (l : List ℕ) where
  pub is_unheld : {z : Bool} → get_or l 0 0 ≡ 0 → z ≡ all_zero (take HELD_SIZE (drop 1 l)) → z ≡ held_field.ok l
  unfolding held_field via
  is_unheld a f = f ∙ sym (is_left (slot HELD_SIZE nothing) held l a ∙ blank HELD_SIZE (drop 1 l))

  pub is-held : {b : Bool} → get_or l 0 0 ≡ 1 → b ≡ held.ok (take (length l - 1) (drop 1 l)) → b ≡ held_field.ok l
  unfolding held_field via
  is-held a e = cut held.ok 1 l e ∙ sym (is_right (slot HELD_SIZE nothing) held l a)

  pub no_held : (get_or l 0 0 ≡ 0 → ⊥) → (get_or l 0 0 ≡ 1 → ⊥) → false ≡ held_field.ok l
  unfolding held_field via
  no_held a b = sym (is_none (slot HELD_SIZE nothing) held l a b)

-- ---- values one behind the other, of which i are read

module _ {A : Type 0} (X : Codec A) (w : ℕ) (e : X.width ≡ w) (n i : ℕ) (x : List ℕ) where
  many_ok : i < n → ok_many X (n - i) (drop (w * i) x) ≡ (X.ok (drop (w * i) x) && ok_many X (n - (i + 1)) (drop (w * (i + 1)) x))
  unfolding ok_many
  many_ok h = let s : n - i ≡ suc (n - (i + 1)) = omega arith in rw (s, ← next_place X w e n i x)

-- ---- a loop over the entries that has come to entry i

abbrev pub AllOk : List ℕ → ℕ → ℕ → Type 0
AllOk x n i = ok_many entry n x ≡ ok_many entry (n - i) (drop (ENTRY_SIZE * i) x)

module _ (x : List ℕ) (n i : ℕ) (inv : AllOk x n i) where
  module _ (h : i < n) {b : Bool} (e : b ≡ entry.ok (take (length x - ENTRY_SIZE * i) (drop (ENTRY_SIZE * i) x))) where
    turn : ok_many entry n x ≡ (entry.ok (drop (ENTRY_SIZE * i) x) && ok_many entry (n - (i + 1)) (drop (ENTRY_SIZE * (i + 1)) x))
    turn = inv ∙ many_ok entry ENTRY_SIZE entry-width n i x h

    pub all_stop : b ≡ false → false ≡ ok_many entry n x
    all_stop = stop_by _ _ turn (cut entry.ok (ENTRY_SIZE * i) x e)

    pub all_next : b ≡ true → AllOk x n (i + 1)
    all_next = next_by _ _ turn (cut entry.ok (ENTRY_SIZE * i) x e)

  pub all_end : n ≤ i → true ≡ ok_many entry n x
  unfolding ok_many
  all_end h = let z : n - i ≡ 0 = omega arith in sym (inv ∙ rw z)
