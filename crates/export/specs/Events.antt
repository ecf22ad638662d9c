-- The events of an answer area, and an event as numbers and texts, as a host reads them.
-- Assumes nothing.
use Rattle.std.specs.Prelude.{ℕ, zero, suc, ◌+◌, ◌*◌, Bool, ◌&&◌, List, [], ◌∷◌, eqb, ltb, leb, length, drop, Option, Some, None}
use Rattle.area.specs.Pick.{pick}
use Rattle.area.specs.Look.{assoc}
use Rattle.area.specs.Bytes.{num}
use Rattle.area.specs.Splice.{splice}
use Rattle.keys.specs.Native.{native_kind, native_value}
use Rattle.keys.specs.Key.{key_number, key_aux, key_value}
use Rattle.keys.specs.Text.{bare_of, text_in}
use Rattle.keys.specs.Location.{location_number}
use Rattle.keys.specs.Number.{code_number, code_native}
use Rattle.session.specs.Limits.{AREA, ENTRIES_MOST, TEXT_MOST, ANSWER_EVENT_SIZE, ANSWER_EVENTS_AT}
use Rattle.session.specs.Event.{Event}
use Rattle.session.specs.Area.{flag_number, state_number, bytes_of, event}
use Rattle.export.specs.Numbers.{NONE}

-- an answer area's size, and a number of events that it has room for
unfoldable pub is_answer : List ℕ → Bool
is_answer x = eqb (length x) AREA && leb (num 2 0 x) ENTRIES_MOST

-- where event i begins: behind their number and the events before it
abbrev pub place : ℕ → ℕ
place i = ANSWER_EVENTS_AT + ANSWER_EVENT_SIZE * i

-- event i is there, in bytes that are an event's
unfoldable pub is_event : List ℕ → ℕ → Bool
is_event x i = is_answer x && (ltb i (num 2 0 x) && event.ok (drop (place i) x))

-- event i of an answer area
unfoldable pub event_at : List ℕ → ℕ → Option Event
event_at x i = pick (is_event x i) (Some (event.get (drop (place i) x))) None

-- ---- an event as numbers

-- how many numbers
abbrev pub FIELDS : ℕ
FIELDS = 17

-- the physical key: its place in tao's KeyCode, and the kind and value of its native code; the logical key: its place in tao's Key and what
-- it holds; location, state, repeat, synthetic; the key without modifiers as the logical one; and the lengths of the four texts
unfoldable pub fields_of : Event → List ℕ
fields_of e =
    code_number e.physical_key
    ∷ native_kind (code_native e.physical_key)
    ∷ native_value (code_native e.physical_key)
    ∷ key_number (bare_of e.logical_key)
    ∷ key_aux (bare_of e.logical_key)
    ∷ key_value (bare_of e.logical_key)
    ∷ location_number e.location
    ∷ state_number e.state
    ∷ flag_number e.repeat
    ∷ flag_number e.synthetic
    ∷ key_number (bare_of e.key_without_modifiers)
    ∷ key_aux (bare_of e.key_without_modifiers)
    ∷ key_value (bare_of e.key_without_modifiers)
    ∷ length (text_in e.logical_key)
    ∷ length (bytes_of e.text)
    ∷ length (bytes_of e.text_with_all_modifiers)
    ∷ length (text_in e.key_without_modifiers)
    ∷ []

-- 0 and the numbers; or 1 and what stood there, also where there is room for another number of them
unfoldable pub fields_left : Option Event → List ℕ → ℕ × List ℕ
fields_left None f = (1, f)
fields_left (Some e) f = pick (eqb (length f) FIELDS) (0, fields_of e) (1, f)

-- ---- its texts

-- the logical key's character, the text, the text with all modifiers, the character of the key without modifiers; a text that is not there
-- has no bytes
unfoldable pub event_text : Event → ℕ → Option (List ℕ)
event_text e which =
    assoc
    ((0, Some (text_in e.logical_key)) ∷ (1, Some (bytes_of e.text)) ∷ (2, Some (bytes_of e.text_with_all_modifiers)) ∷ (3, Some (text_in e.key_without_modifiers)) ∷ [])
    None
    which

unfoldable pub text_at : Option Event → ℕ → Option (List ℕ)
text_at None which = None
text_at (Some e) which = event_text e which

-- the text's length, and the text in front; or no number and what stood there, also where there is less room than a text may need
unfoldable pub text_left : Option (List ℕ) → List ℕ → ℕ × List ℕ
text_left None t = (NONE, t)
text_left (Some b) t = pick (ltb (length t) TEXT_MOST) (NONE, t) (length b, splice 0 b t)

-- where a text's length stands in an event's bytes, the text behind it
unfoldable pub text_place : ℕ → ℕ
text_place which = assoc ((0, 13) ∷ (1, 62) ∷ (2, 115) ∷ []) 171 which

-- ---- the events that a call hands out

-- the i-th, from 0
unfoldable pub nth : List Event → ℕ → Option Event
nth [] i = None
nth (e ∷ es) zero = Some e
nth (e ∷ es) (suc i) = nth es i
