-- What the writes make of a session, and of both areas.
-- Assumes nothing.
use Rattle.std.specs.Prelude.{◌≡◌, List, [], ◌∷◌, ◌++◌, ℕ, ◌+◌, ◌*◌, length, Option}
use Rattle.area.specs.Splice.{splice}
use Rattle.session.specs.Limits.{ANSWER_EVENTS_AT, ANSWER_EVENT_SIZE}
use Rattle.session.specs.Event.{Event, Held}
use Rattle.session.specs.Session.{Session, complete}
use Rattle.session.specs.Codec.{put_many}
use Rattle.session.specs.Area.{event, encode, encode_answer}
use Rattle.session.specs.Calls.{Effect, resolve, is_first, resolved}

-- the session with another press held, or none
abbrev pub holding : Session → Option Held → Session
holding s h = record { handed = s.handed; held = h; entries = s.entries }

-- .. with a completed event behind its last entry, under the next token
abbrev pub with_event : Session → Event → Session
with_event s e = record { handed = s.handed + 1; held = s.held; entries = s.entries ++ (complete s.handed e ∷ []) }

-- .. with the first entry that carries the token t completed with its event, or dropped
abbrev pub with_resolved : Session → ℕ → Option Event → Session
with_resolved s t o = record { handed = s.handed; held = s.held; entries = resolve t o s.entries }

-- .. with no entry, and no token handed out
abbrev pub emptied : Session → Session
emptied s = record { handed = 0; held = s.held; entries = [] }

-- the first entry that carries the token t completed with its event, or dropped: the queue's first one empties the queue, and the completed
-- ones are handed out; another one waits
abbrev pub resolved_by : Session → ℕ → Option Event → Effect
resolved_by s t o = resolved (is_first t s.entries) s t o s.held

-- both areas are those of the effect
pub record Does (e : Effect) (x y : List ℕ) : Type 0 where
  pub session : x ≡ encode e.after
  pub answers : y ≡ encode_answer e.events

-- the events es stand in the answer area behind n others, which makes k
pub record Written (n : ℕ) (es : List Event) (y₀ y : List ℕ) (k : ℕ) : Type 0 where
  pub count : k ≡ n + length es
  pub bytes : y ≡ splice (ANSWER_EVENTS_AT + ANSWER_EVENT_SIZE * n) (put_many event es) y₀
