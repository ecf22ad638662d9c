-- What an open leaves, and what it counts on.
-- Assumes nothing.
use Rattle.std.specs.Prelude.{◌≡◌, true, List, ◌++◌, ℕ, ◌+◌, ◌≤◌, ◌<◌, length, Option, Some, Ok}
use Rattle.text.specs.Message.{char_units}
use Rattle.session.specs.Limits.{ENTRIES_MOST, TOKENS_MOST, UNITS_MOST}
use Rattle.session.specs.Event.{Event, Held}
use Rattle.session.specs.Session.{Session}
use Rattle.session.specs.Area.{encode, decode, encode_answer}
use Rattle.session.specs.Calls.{Effect, numbered}
use Rattle.session.specs.Answers.{open_said, said_token}
use Rattle.session.specs.Questions.{is_held, behind_some}
use Rattle.session.specs.declared.PendingMessageToken.{PendingMessageToken}
use Rattle.queue.specs.Room.{IsArea}

-- the token r, if any, and both areas are those of the effect
pub record Gives (e : Effect) (r : Option PendingMessageToken) (x y : List ℕ) : Type 0 where
  pub said : open_said (Ok r) ≡ said_token e.token
  pub session : x ≡ encode e.after
  pub answers : y ≡ encode_answer e.events

-- the area of a session that has room for a character message, should a press be held
pub record MayChar (x : List ℕ) (wparam : ℕ) : Type 0 where
  pub area : IsArea x
  pub entry : is_held (decode x).held ≡ true → length (decode x).entries < ENTRIES_MOST
  pub token : is_held (decode x).held ≡ true → (decode x).handed < TOKENS_MOST
  pub units : (h : Held) → (decode x).held ≡ Some h → length h.units + length (char_units wparam) ≤ UNITS_MOST

-- events fit behind the last entry, each with an entry and a token of its own; an empty queue need hold none
pub record FitBehind (s : Session) (es : List Event) : Type 0 where
  pub entries : length s.entries + behind_some s.entries (length es) ≤ ENTRIES_MOST
  pub tokens : s.handed + behind_some s.entries (length es) ≤ TOKENS_MOST

-- the session with events behind its last entry
unfoldable pub followed : Session → List Event → Session
followed s es = record { handed = s.handed + length es; held = s.held; entries = s.entries ++ numbered s.handed es }
