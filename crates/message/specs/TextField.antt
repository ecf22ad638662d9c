-- Where the text of the event that completes the held press stands.
-- Assumes nothing.
use Rattle.std.specs.Prelude.{List, ℕ, zero, suc, ◌+◌, drop}
use Rattle.session.specs.Limits.{ANSWER_EVENTS_AT}
use Rattle.queue.specs.Stands.{event_place}

-- the bytes from it on, in the area that the place tells: x the session's, y that of the answers
unfoldable pub text_field : ℕ → List ℕ → List ℕ → List ℕ
text_field zero x y = drop (ANSWER_EVENTS_AT + 62) y
text_field (suc n) x y = drop (event_place (suc n) + 62) x
