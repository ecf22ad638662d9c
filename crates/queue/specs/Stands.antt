-- Where the event of an entry stands before the entry is completed with it, whole or a part of it.
-- Assumes nothing.
use Rattle.std.specs.Prelude.{◌≡◌, List, ℕ, ◌+◌, ◌*◌}
use Rattle.area.specs.Splice.{splice}
use Rattle.session.specs.Limits.{ANSWER_EVENTS_AT, ENTRIES_AT, ENTRY_SIZE, ENTRY_EVENT_AT}
use Rattle.session.specs.Event.{Event}
use Rattle.session.specs.Area.{event}

-- where the event of the entry at a place begins in the session area
abbrev pub event_place : ℕ → ℕ
event_place place = ENTRIES_AT + ENTRY_SIZE * place + ENTRY_EVENT_AT

-- where what is kept of the open release at a place begins
abbrev pub info_place : ℕ → ℕ
info_place place = ENTRIES_AT + ENTRY_SIZE * place + 5

-- the event of the queue's first entry goes to the answer area, that of a later one into the entry: bytes written at an offset of it make x and y
-- x' and y'
pub record FieldStands (place off : ℕ) (b : List ℕ) (x y x' y' : List ℕ) : Type 0 where
  pub first : place ≡ 0 → (x' ≡ x) × (y' ≡ splice (ANSWER_EVENTS_AT + off) b y)
  pub later : (place ≡ 0 → ⊥) → (x' ≡ splice (event_place place + off) b x) × (y' ≡ y)

-- the whole event
abbrev pub EventStands : (place : ℕ) (e : Event) (x y x' y' : List ℕ) → Type 0
EventStands place e x y x' y' = FieldStands place 0 (event.put e) x y x' y'
