-- What an entry and the header read, each in plain terms: at which place, and how.
-- Assumes nothing.
use Rattle.std.specs.Prelude.{Option}
use mathlib.Core.Path.{◌≡◌, refl, ◌∙◌}
use mathlib.Core.Bool.{true, ◌&&◌, and-eq-true_iff}
use mathlib.Core.List.{List}
use Prim.Native.Nat.{ℕ, ◌+◌}
use lib.Dec.{eqb, leb}
use lib.ListN.{length, drop, get_or}
use lib.Seq.{drop-drop, get_or-drop}
use Rattle.area.specs.Pick.{pick}
use Rattle.area.specs.Bytes.{num}
use Rattle.area.proofs.Bytes.{num-drop}
use Rattle.session.specs.Limits.{ENTRIES_MOST, COUNT_AT, ENTRIES_AT, HELD_FIELD_SIZE, EVENT_SIZE, HELD_SIZE, INFO_SIZE, WAIT_SIZE}
use Rattle.session.specs.Codec.{Codec, number, nothing, pair, via, slot, left, right, either, get_many, ok_many, list_of}
use Rattle.session.specs.Event.{Held}
use Rattle.session.specs.Session.{Entry}
use Rattle.session.specs.Area.{event, info, held, pressed, from_wait, wait, entry_of, entry, from_held, held_field, session, decode, session_ok}
use Rattle.session.proofs.Area.{held-field-width}
use Rattle.session.proofs.Codec.{many_count}
use Rattle.record.proofs.Fields.{pair_ok, pair_got, number_at, number-width}

-- ---- an entry

-- one of two, from place k on
module _ {A B : Type 0} (X : Codec A) (Y : Codec B) (k : ℕ) (l : List ℕ) where
  pub either-ok :
      (either X Y).ok (drop k l) ≡ true → pick (eqb (get_or l (k + 0) 0) 0) (X.ok (drop (k + 1) l)) (eqb (get_or l (k + 0) 0) 1 && Y.ok (drop (k + 1) l)) ≡ true
  unfolding either
  either-ok o = rw (get_or-drop k l 0 0, drop-drop 1 k l) at o

  either_got : (either X Y).get (drop k l) ≡ pick (eqb (get_or l (k + 0) 0) 0) (left (X.get (drop (k + 1) l))) (right (Y.get (drop (k + 1) l)))
  unfolding either
  either_got = rw (get_or-drop k l 0 0, drop-drop 1 k l)

slot_got : {A : Type 0} (w : ℕ) (X : Codec A) (l : List ℕ) → (slot w X).get l ≡ X.get l
unfolding slot
slot_got w X l = refl

pub slot_ok : {A : Type 0} (w : ℕ) (X : Codec A) (l : List ℕ) → (slot w X).ok l ≡ true → X.ok l ≡ true
unfolding slot
slot_ok w X l o = ((and-eq-true_iff (X.ok l) _).0 o).0

pub wait_got :
    (l : List ℕ) → wait.get (drop 3 l) ≡ from_wait (pick (eqb (get_or l 3 0) 0) (left (pressed.get (drop 4 l))) (right (pick (eqb (get_or l 4 0) 0) (left (info.get (drop 5 l))) (right tt))))
unfolding wait via nothing
wait_got l =
    rw (either_got (slot WAIT_SIZE pressed) _ 3 l, slot_got WAIT_SIZE pressed (drop 4 l), either_got info (slot INFO_SIZE nothing) 4 l, slot_got INFO_SIZE nothing (drop 5 l))

pub wait-ok :
    (l : List ℕ) → wait.ok (drop 3 l) ≡ true →
    pick (eqb (get_or l 3 0) 0) ((slot WAIT_SIZE pressed).ok (drop 4 l)) (eqb (get_or l 3 0) 1 && (either info (slot INFO_SIZE nothing)).ok (drop 4 l)) ≡ true
unfolding wait via
wait-ok l o = either-ok (slot WAIT_SIZE pressed) (either info (slot INFO_SIZE nothing)) 3 l o

pub entry_got :
    (l : List ℕ) → entry.get l ≡ entry_of (num 2 0 l) (pick (eqb (get_or l 2 0) 0) (left (wait.get (drop 3 l))) (right (event.get (drop 3 l))))
unfolding entry via
entry_got l =
    rw (pair_got (number 2) _ 0 2 l (number-width 2), number_at 0 l 2, either_got (slot EVENT_SIZE wait) event 2 l, slot_got EVENT_SIZE wait (drop 3 l))

pub entry-ok :
    (l : List ℕ) → entry.ok l ≡ true → pick (eqb (get_or l 2 0) 0) ((slot EVENT_SIZE wait).ok (drop 3 l)) (eqb (get_or l 2 0) 1 && event.ok (drop 3 l)) ≡ true
unfolding entry via
entry-ok l o = either-ok (slot EVENT_SIZE wait) event 2 l (pair_ok (number 2) _ 0 2 l (number-width 2) o).1

-- ---- the session

entries-length : (l : List ℕ) → length ((list_of 2 ENTRIES_MOST entry).get l) ≡ num 2 0 l
unfolding list_of
entries-length l = many_count entry (num 2 0 l) (drop 2 l)

held-field_got : (l : List ℕ) → held_field.get (drop 2 l) ≡ from_held (pick (eqb (get_or l 2 0) 0) (left tt) (right (held.get (drop 3 l))))
unfolding held_field via nothing
held-field_got l = rw (either_got (slot HELD_SIZE nothing) held 2 l, slot_got HELD_SIZE nothing (drop 3 l))

-- the three fields, one behind the other
abbrev Fields : Codec (ℕ × (Option Held × List Entry))
Fields = pair (number 2) (pair held_field (list_of 2 ENTRIES_MOST entry))

decoded :
    (l : List ℕ) → decode l ≡ record { handed = (Fields.get l).0; held = (Fields.get l).1.0; entries = (Fields.get l).1.1 }
unfolding decode session slot via
decoded l = refl

pub decode_got :
    (l : List ℕ) →
    ((decode l).handed ≡ num 2 0 l) × ((decode l).held ≡ from_held (pick (eqb (get_or l 2 0) 0) (left tt) (right (held.get (drop 3 l))))) × (length (decode l).entries ≡ num 2 COUNT_AT l)
decode_got l =
    rw (decoded l, pair_got (number 2) _ 0 2 l (number-width 2), pair_got held_field _ 2 HELD_FIELD_SIZE l held-field-width, number_at 0 l 2)
    (refl, held-field_got l, entries-length (drop COUNT_AT l) ∙ num-drop 2 0 COUNT_AT l)

list-ok : (l : List ℕ) → (list_of 2 ENTRIES_MOST entry).ok l ≡ true → ok_many entry (num 2 0 l) (drop 2 l) ≡ true
unfolding list_of
list-ok l o =
    let a = (and-eq-true_iff (leb (num 2 0 l) ENTRIES_MOST) _).0 o in ((and-eq-true_iff (ok_many entry (num 2 0 l) (drop 2 l)) _).0 a.1).0

entries_as : (l : List ℕ) → (list_of 2 ENTRIES_MOST entry).get l ≡ get_many entry (num 2 0 l) (drop 2 l)
unfolding list_of
entries_as l = refl

pub decode-entries : (l : List ℕ) → (decode l).entries ≡ get_many entry (num 2 COUNT_AT l) (drop ENTRIES_AT l)
decode-entries l =
    rw (decoded l, pair_got (number 2) _ 0 2 l (number-width 2), pair_got held_field _ 2 HELD_FIELD_SIZE l held-field-width)
    (entries_as (drop COUNT_AT l) ∙ rw (num-drop 2 0 COUNT_AT l, drop-drop 2 COUNT_AT l))

-- the area is one behind the other, and then zeros
fields-ok : (l : List ℕ) → session_ok l ≡ true → Fields.ok l ≡ true
unfolding session_ok session slot via
fields-ok l o =
    let a = (and-eq-true_iff (session.ok l) _).0 o in ((and-eq-true_iff (Fields.ok l) _).0 a.0).0

pub area-ok :
    (l : List ℕ) → session_ok l ≡ true → pick (eqb (get_or l 2 0) 0) ((slot HELD_SIZE nothing).ok (drop 3 l)) (eqb (get_or l 2 0) 1 && held.ok (drop 3 l)) ≡ true
unfolding held_field via
area-ok l o =
    let a = pair_ok (number 2) _ 0 2 l (number-width 2) (fields-ok l o) in
    let b = pair_ok held_field _ 2 HELD_FIELD_SIZE l held-field-width a.1 in either-ok (slot HELD_SIZE nothing) held 2 l b.0

-- its entries are in order
pub entries-ok : (l : List ℕ) → session_ok l ≡ true → ok_many entry (num 2 COUNT_AT l) (drop ENTRIES_AT l) ≡ true
entries-ok l o =
    let a = pair_ok (number 2) _ 0 2 l (number-width 2) (fields-ok l o) in
    let b = pair_ok held_field _ 2 HELD_FIELD_SIZE l held-field-width a.1 in
    rw (num-drop 2 0 COUNT_AT l, drop-drop 2 COUNT_AT l) at (list-ok (drop COUNT_AT l) b.1)
