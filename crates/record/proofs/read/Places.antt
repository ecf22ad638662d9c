-- What an entry and the area hold, by what they are told to hold, and where it stands.
-- Assumes nothing.
use Rattle.std.specs.Prelude.{Some}
use mathlib.Core.Path.{◌≡◌, refl, sym, ap, ◌∙◌}
use mathlib.Core.Bool.{Bool, true, false, not, and-eq-true_iff}
use mathlib.Core.List.{List}
use Prim.Native.Nat.{ℕ}
use lib.Dec.{eqb}
use lib.ListN.{drop, get_or}
use borrow.Author.Tests.{eqb-true}
use Rattle.area.specs.Pick.{pick}
use Rattle.area.specs.Bytes.{num}
use Rattle.session.specs.Limits.{EVENT_SIZE, INFO_SIZE, WAIT_SIZE}
use Rattle.session.specs.Codec.{nothing, slot, left, right}
use Rattle.lookup.specs.declared.keyboard.KeyLParam.{KeyLParam}
use Rattle.session.specs.Event.{Event, Info, Held}
use Rattle.session.specs.Session.{press, release, character, Entry, waiting, complete, token_of}
use Rattle.session.specs.Area.{event, info, held, pressed, from_wait, wait, entry_of, entry, from_held, decode, session_ok}
use Rattle.session.specs.Questions.{is_held}
use Rattle.record.specs.Pending.{wait_of, pending_of}
use Rattle.record.specs.declared.read.Pending.{Pending}
use Rattle.record.specs.declared.read.Pending.TheVariants as p
use Rattle.record.proofs.read.Entries.{slot_ok, either-ok, wait_got, wait-ok, entry_got, entry-ok, decode_got, area-ok}

-- what stands there, by whether each of the three marks is 0
abbrev told : Bool → Bool → Bool → Pending
told x y z = pick x (pick y p.Press (pick z p.Release p.Character)) p.Complete

press-told : (x y z : Bool) → told x y z ≡ p.Press → (x ≡ true) × (y ≡ true)
press-told true true z e = (refl, refl)
press-told true false true e = (refl, cc)
press-told true false false e = (refl, cc)
press-told false y z e = (cc, cc)

release-told : (x y z : Bool) → told x y z ≡ p.Release → (x ≡ true) × (y ≡ false) × (z ≡ true)
release-told true true z e = (refl, cc, cc)
release-told true false true e = (refl, refl, refl)
release-told true false false e = (refl, refl, cc)
release-told false y z e = (cc, cc, cc)

character-told : (x y z : Bool) → told x y z ≡ p.Character → (x ≡ true) × (y ≡ false) × (z ≡ false)
character-told true true z e = (refl, cc, cc)
character-told true false true e = (refl, refl, cc)
character-told true false false e = (refl, refl, refl)
character-told false y z e = (cc, cc, cc)

complete-told : (x y z : Bool) → told x y z ≡ p.Complete → x ≡ false
complete-told true true z e = cc
complete-told true false true e = cc
complete-told true false false e = cc
complete-told false y z e = refl

-- an entry of the three marks
abbrev made : Bool → Bool → Bool → ℕ → ℕ × KeyLParam → Info → Event → Entry
made x y z t k n e = entry_of t (pick x (left (from_wait (pick y (left k) (right (pick z (left n) (right tt)))))) (right e))

made_told : (x y z : Bool) (t : ℕ) (k : ℕ × KeyLParam) (n : Info) (e : Event) → pending_of (made x y z t k n e) ≡ told x y z
unfolding pending_of wait_of
made_told true true z t k n e = refl
made_told true false true t k n e = refl
made_told true false false t k n e = refl
made_told false y z t k n e = refl

made_token : (x y z : Bool) (t : ℕ) (k : ℕ × KeyLParam) (n : Info) (e : Event) → token_of (made x y z t k n e) ≡ t
made_token true y z t k n e = refl
made_token false y z t k n e = refl

-- whether the byte at k is 0
abbrev unset : List ℕ → ℕ → Bool
unset l k = eqb (get_or l k 0) 0

module _ (l : List ℕ) where
  -- the whole entry
  entry_whole :
      entry.get l ≡ made (unset l 2) (unset l 3) (unset l 4) (num 2 0 l) (pressed.get (drop 4 l)) (info.get (drop 5 l)) (event.get (drop 3 l))
  entry_whole = rw (entry_got l, wait_got l)

  pub pending_got : pending_of (entry.get l) ≡ told (unset l 2) (unset l 3) (unset l 4)
  pending_got =
      ap pending_of entry_whole
      ∙ made_told (unset l 2) (unset l 3) (unset l 4) (num 2 0 l) (pressed.get (drop 4 l)) (info.get (drop 5 l)) (event.get (drop 3 l))

  pub token_got : token_of (entry.get l) ≡ num 2 0 l
  token_got =
      ap token_of entry_whole
      ∙ made_token (unset l 2) (unset l 3) (unset l 4) (num 2 0 l) (pressed.get (drop 4 l)) (info.get (drop 5 l)) (event.get (drop 3 l))

  -- an open press
  module _ (e : pending_of (entry.get l) ≡ p.Press) where
    press_marks : (unset l 2 ≡ true) × (unset l 3 ≡ true)
    press_marks = press-told (unset l 2) (unset l 3) (unset l 4) (sym pending_got ∙ e)

    pub press_at : entry.get l ≡ waiting (num 2 0 l) (press (pressed.get (drop 4 l)).0 (pressed.get (drop 4 l)).1)
    press_at = rw (entry_whole, press_marks.0, press_marks.1)

    pub press-ok : entry.ok l ≡ true → pressed.ok (drop 4 l) ≡ true
    press-ok o =
        let w = slot_ok EVENT_SIZE wait (drop 3 l) (rw press_marks.0 at (entry-ok l o)) in
        slot_ok WAIT_SIZE pressed (drop 4 l) (rw press_marks.1 at (wait-ok l w))

  -- an open release
  module _ (e : pending_of (entry.get l) ≡ p.Release) where
    release_marks : (unset l 2 ≡ true) × (unset l 3 ≡ false) × (unset l 4 ≡ true)
    release_marks = release-told (unset l 2) (unset l 3) (unset l 4) (sym pending_got ∙ e)

    pub release_at : entry.get l ≡ waiting (num 2 0 l) (release (info.get (drop 5 l)))
    release_at = rw (entry_whole, release_marks.0, release_marks.1, release_marks.2)

    pub release-ok : entry.ok l ≡ true → info.ok (drop 5 l) ≡ true
    release-ok o =
        let w = slot_ok EVENT_SIZE wait (drop 3 l) (rw release_marks.0 at (entry-ok l o)) in
        let v = (and-eq-true_iff (eqb (get_or l 3 0) 1) _).0 (rw release_marks.1 at (wait-ok l w)) in
        rw release_marks.2 at (either-ok info (slot INFO_SIZE nothing) 4 l v.1)

  -- an open character
  pub character_at : pending_of (entry.get l) ≡ p.Character → entry.get l ≡ waiting (num 2 0 l) character
  character_at e =
      let m = character-told (unset l 2) (unset l 3) (unset l 4) (sym pending_got ∙ e) in rw (entry_whole, m.0, m.1, m.2)

  -- a completed event
  module _ (e : pending_of (entry.get l) ≡ p.Complete) where
    complete-mark : unset l 2 ≡ false
    complete-mark = complete-told (unset l 2) (unset l 3) (unset l 4) (sym pending_got ∙ e)

    pub complete_at : entry.get l ≡ complete (num 2 0 l) (event.get (drop 3 l))
    complete_at = rw (entry_whole, complete-mark)

-- ---- the held press of an area

held-told : (x : Bool) (h : Held) → is_held (from_held (pick x (left tt) (right h))) ≡ not x
held-told true h = refl
held-told false h = refl

held-mark : (x : Bool) → not x ≡ true → x ≡ false
held-mark true e = sym e
held-mark false e = refl

module _ (x : List ℕ) where
  pub is-held : is_held (decode x).held ≡ not (unset x 2)
  is-held = rw (decode_got x).1 (held-told (unset x 2) (held.get (drop 3 x)))

  module _ (e : is_held (decode x).held ≡ true) where
    mark : unset x 2 ≡ false
    mark = held-mark (unset x 2) (sym is-held ∙ e)

    pub held_at : (decode x).held ≡ Some (held.get (drop 3 x))
    held_at = rw ((decode_got x).1, mark)

    pub held-ok : session_ok x ≡ true → held.ok (drop 3 x) ≡ true
    held-ok o = ((and-eq-true_iff (eqb (get_or x 2 0) 1) _).0 (rw mark at (area-ok x o))).1

    pub held_marked : session_ok x ≡ true → get_or x 2 0 ≡ 1
    held_marked o = eqb-true (get_or x 2 0) 1 ((and-eq-true_iff (eqb (get_or x 2 0) 1) _).0 (rw mark at (area-ok x o))).0
