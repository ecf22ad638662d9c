-- The questions that a call is put through (SCOPE 6), each under its number. A question that is not put to a call is passed.
-- Assumes nothing.
use Rattle.std.specs.Prelude.{ℕ, ◌+◌, Bool, true, false, ◌&&◌, List, [], ◌∷◌, eqb, ltb, leb, length, Option, Some, None}
use Rattle.area.specs.Pick.{pick}
use Rattle.text.specs.Message.{char_units}
use Rattle.segmentation.specs.Layout.{table_ok}
use Rattle.lookup.specs.Block.{block_ok}
use Rattle.session.specs.Limits.{AREA, KEYS, OPEN_MOST, ENTRIES_MOST, TOKENS_MOST, UNITS_MOST}
use Rattle.session.specs.Given.{Given, brought, finished, inputs_of}
use Rattle.session.specs.declared.Message.{Message}
use Rattle.session.specs.Event.{Held}
use Rattle.session.specs.Focus.{focus_events}
use Rattle.session.specs.Session.{Entry, waiting, complete, Session, open_count}
use Rattle.session.specs.Builder.{Keyboard, keyboard_of, with_units}
use Rattle.session.specs.Calls.{Sort, key_down, key_up, char, dead_char, ignored, focus, sort_of}

-- ---- what a message asks for

abbrev pub is_held : Option Held → Bool
is_held None = false
is_held (Some h) = true

-- whether it opens: a character only where a press is held
unfoldable pub opens : Session → Sort → Bool
opens s key_down = true
opens s key_up = true
opens s char = is_held s.held
opens s dead_char = false
opens s (focus st) = false
opens s ignored = false

abbrev pub behind_some : List Entry → ℕ → ℕ
behind_some [] n = 0
behind_some (x ∷ r) n = n

-- how many entries, and so many tokens, it needs. SCOPE 6.0: focus on an empty queue needs none
unfoldable pub new_entries : Session → Keyboard → Sort → ℕ
new_entries s b key_down = 1
new_entries s b key_up = 1
new_entries s b char = pick (is_held s.held) 1 0
new_entries s b dead_char = 1
new_entries s b (focus st) = behind_some s.entries (length (focus_events b st))
new_entries s b ignored = 0

-- how many units are held with it
unfoldable pub units_after : Option Held → Message → Sort → ℕ
units_after None m k = 0
units_after (Some h) m char = length (with_units h (char_units m.wparam)).units
units_after (Some h) m key_down = 0
units_after (Some h) m key_up = 0
units_after (Some h) m dead_char = 0
units_after (Some h) m (focus st) = 0
units_after (Some h) m ignored = 0

-- the token of the latest open message
abbrev pub latest : Option ℕ → ℕ → Option ℕ
latest None t = Some t
latest (Some u) t = Some u

unfoldable pub last_token : List Entry → Option ℕ
last_token [] = None
last_token (complete t e ∷ r) = last_token r
last_token (waiting t w ∷ r) = latest (last_token r) t

abbrev pub is_token : ℕ → Option ℕ → Bool
is_token t None = false
is_token t (Some u) = eqb t u

-- ---- the questions

-- SCOPE 6.1: both areas are exactly 65,536 bytes
unfoldable pub question1 : List ℕ → List ℕ → Bool
question1 x y = eqb (length x) AREA && eqb (length y) AREA

-- SCOPE 6.2: there are 256 key-state bytes
unfoldable pub question2 : Given → Bool
question2 g = eqb (length (inputs_of g).key_state) KEYS

-- SCOPE 6.3: the block is at most 65,536 bytes and laid out as docs/AREAS.md says
unfoldable pub question3 : Given → Bool
question3 g = block_ok (inputs_of g).block

-- SCOPE 6.11: the break table is at most 65,536 bytes and laid out as docs/AREAS.md says
unfoldable pub question11 : Given → Bool
question11 g = table_ok (inputs_of g).table

-- SCOPE 6.5: for 103 and 107, a press is held
unfoldable pub question5 : Session → Sort → Bool
question5 s dead_char = is_held s.held
question5 s key_down = true
question5 s key_up = true
question5 s char = true
question5 s (focus st) = true
question5 s ignored = true

-- SCOPE 6.6: to open, fewer than 8 are open
unfoldable pub question6 : Session → Sort → Bool
question6 s k = pick (opens s k) (ltb (open_count s.entries) OPEN_MOST) true

-- SCOPE 6.7: the new entries fit within 256
unfoldable pub question7 : Session → Keyboard → Sort → Bool
question7 s b k = leb (length s.entries + new_entries s b k) ENTRIES_MOST

-- SCOPE 6.8: the tokens since the queue was empty stay within 4,096
unfoldable pub question8 : Session → Keyboard → Sort → Bool
question8 s b k = leb (s.handed + new_entries s b k) TOKENS_MOST

-- SCOPE 6.9: the held units stay within 16
unfoldable pub question9 : Session → Message → Sort → Bool
question9 s m k = leb (units_after s.held m k) UNITS_MOST

-- SCOPE 6.10: to finish, the token is that of the latest open message
unfoldable pub question10 : Session → ℕ → Bool
question10 s t = is_token t (last_token s.entries)

-- ---- the first that is failed

unfoldable pub first_no : List (ℕ × Bool) → Option ℕ
first_no [] = None
first_no (q ∷ qs) = pick q.1 (first_no qs) (Some q.0)

-- SCOPE 6.0: 5 to 9 are put to calls that bring a message, 10 to finishes
unfoldable pub message_questions : Session → Keyboard → Message → Sort → List (ℕ × Bool)
message_questions s b m k =
    (5, question5 s k) ∷ (6, question6 s k) ∷ (7, question7 s b k) ∷ (8, question8 s b k) ∷ (9, question9 s m k) ∷ []

unfoldable pub finish_questions : Session → ℕ → List (ℕ × Bool)
finish_questions s t = (10, question10 s t) ∷ []

unfoldable pub session_questions : Session → Given → List (ℕ × Bool)
session_questions s (brought i m) = message_questions s (keyboard_of i) m (sort_of m)
session_questions s (finished i t p) = finish_questions s t
