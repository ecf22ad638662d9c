-- Two more statements about every run, of the same invariant as demand 3: never late, and no history.
-- Assumes nothing.
use Rattle.std.specs.Prelude.{◌≡◌, ℕ, List, [], ◌∷◌, ◌++◌, ltb, Option, Some, None}
use Rattle.area.specs.Pick.{pick}
use Rattle.session.specs.Event.{Event}
use Rattle.session.specs.Book.{Arrival, Note, held_in}
use Rattle.session.specs.Run.{Call, State, start, run, CallsInRange}

-- the number of the earliest open message
unfoldable pub earliest : List Arrival → Option ℕ
earliest [] = None
earliest (a ∷ []) = Some a.number
earliest (a ∷ b ∷ r) = earliest (b ∷ r)

-- the noted events whose number is below it, all of them when nothing is open
unfoldable pub before : Option ℕ → List Note → List Event
before o [] = []
before None (x ∷ r) = x.event ∷ before None r
before (Some n) (x ∷ r) = pick (ltb x.number n) (x.event ∷ []) [] ++ before (Some n) r

-- SCOPE 7.11: an event waits from its noting until a call hands it out; and it waits for nothing but an earlier open message.
abbrev pub NeverLate : Type 0
NeverLate =
    (cs : List Call) → CallsInRange cs →
    let st : State = run start cs in st.out ≡ before (earliest st.book.opened) st.book.noted

-- SCOPE 1.3: no trace of typing may stay. With nothing open and the same press held, or none, the session area is the same byte for byte,
-- whatever was typed.
abbrev pub NoHistory : Type 0
NoHistory =
    (cs ds : List Call) → CallsInRange cs → CallsInRange ds →
    let st : State = run start cs in
    let su : State = run start ds in
    st.book.opened ≡ [] → su.book.opened ≡ [] → held_in st.book.held ≡ held_in su.book.held → st.area ≡ su.area
