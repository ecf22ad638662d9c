-- A host's view: what it reads of the answer areas by `mahjonglarch_event_count`, `_event` and `_event_text`, and that nothing is lost by it.
-- proofs/Told.antt and proofs/Host.antt have the proofs, `event-told : EventTold` and `host_demand3 : HostDemand3`.
-- Assumes nothing.
use Rattle.std.specs.Prelude.{ℕ, zero, suc, ◌≤◌, ◌≡◌, true, List, [], ◌∷◌, ◌++◌, map, eqb, length, take, Option, Some, None}
use Rattle.area.specs.Pick.{pick}
use Rattle.session.specs.Limits.{TEXT_MOST}
use Rattle.session.specs.Event.{Event}
use Rattle.session.specs.Session.{event_fits, all_fit}
use Rattle.session.specs.Answers.{Outcome, refused, answered}
use Rattle.session.specs.Book.{Note}
use Rattle.session.specs.Run.{Call, State, Closing, start, run, closings, CallsInRange, ClosingsInRange}
use Rattle.session.specs.Demand3.{AllWellFormed}
use Rattle.export.specs.Numbers.{NONE}
use Rattle.export.specs.Events.{FIELDS, event_at, fields_of, fields_left, event_text, text_at, text_left}
use Rattle.export.specs.Interface.{count_of}

-- ---- an event's numbers and texts

-- the four texts that `_event_text` is asked for
abbrev pub TEXTS : List ℕ
TEXTS = 0 ∷ 1 ∷ 2 ∷ 3 ∷ []

abbrev pub texts_of : Event → List (Option (List ℕ))
texts_of e = map (λ (which : ℕ). event_text e which) TEXTS

-- for events in range equal numbers and texts mean equal events
abbrev pub EventTold : Type 0
EventTold =
    (e f : Event) → event_fits e ≡ true → event_fits f ≡ true → fields_of e ≡ fields_of f → texts_of e ≡ texts_of f → e ≡ f

-- an event as a host has it; none stands for what a function answered that there is not
pub record Told : Type 0 where
  pub fields : Option (List ℕ)
  pub texts : List (Option (List ℕ))

-- as it should have it
unfoldable pub told : Event → Told
told e = record { fields = Some (fields_of e); texts = texts_of e }

-- ---- what a host reads

-- of what `_event` answers and leaves: the numbers, where it answers 0
unfoldable pub fields_taken : ℕ × List ℕ → Option (List ℕ)
fields_taken a = pick (eqb a.0 0) (Some a.1) None

-- of what `_event_text` answers and leaves: as many bytes as it answers, unless it answers that there is no such text
unfoldable pub text_taken : ℕ × List ℕ → Option (List ℕ)
text_taken a = pick (eqb a.0 NONE) None (Some (take a.0 a.1))

-- what a host lends the two: room for the numbers and for a text, whatever stands there
pub record Room : Type 0 where
  pub fields : List ℕ
  pub text : List ℕ
  pub fields_room : length fields ≡ FIELDS
  pub text_room : TEXT_MOST ≤ length text

-- event i of an answer area
unfoldable pub event_read : Room → List ℕ → ℕ → Told
event_read m y i =
    record {
      fields = fields_taken (fields_left (event_at y i) m.fields);
      texts = map (λ (which : ℕ). text_taken (text_left (text_at (event_at y i) which) m.text)) TEXTS;
    }

-- so many events, from i on
unfoldable pub events_read : Room → ℕ → ℕ → List ℕ → List Told
events_read m zero i y = []
events_read m (suc n) i y = event_read m y i ∷ events_read m n (suc i) y

-- an answer area: as many as `_event_count` answers
unfoldable pub area_read : Room → List ℕ → List Told
area_read m y = events_read m (count_of y) 0 y

-- a run: the answer area of each answered call, one behind the other; that of a refused call is not read
unfoldable pub run_read : Room → List Outcome → List Told
run_read m [] = []
run_read m (refused n ∷ r) = run_read m r
run_read m (answered t x y ∷ r) = area_read m y ++ run_read m r

-- ---- demand 3, as a host sees it

-- the events that the book noted, in the order of arrival of the messages that completed them
abbrev pub noted_events : State → List Event
noted_events end = map (λ (x : Note). x.event) end.book.noted

pub record HostSees (m : Room) (end : State) : Type 0 where
  -- what the host reads over the answer areas of the whole run is the book's list, field by field
  pub reads : run_read m end.outcomes ≡ map told (noted_events end)
  -- and its view loses nothing: the book's events are in range, and no other list of events in range reads so
  pub in_range : all_fit (noted_events end) ≡ true
  pub no_other : (es : List Event) → all_fit es ≡ true → run_read m end.outcomes ≡ map told es → es ≡ noted_events end

-- SCOPE 1.3, as a host sees it. Its premises are demand 3's.
abbrev pub HostDemand3 : Type 0
HostDemand3 =
    (m : Room) (cs : List Call) (ks : List Closing) → CallsInRange cs →
    let st : State = run start cs in
    ClosingsInRange ks → AllWellFormed ks → length ks ≡ length st.tokens → HostSees m (run st (closings st.tokens ks))
