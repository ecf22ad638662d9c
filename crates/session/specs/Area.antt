-- The one area of a session, and that of the events that a call hands out. docs/AREAS.md has the same byte by byte.
-- Assumes nothing.
use Rattle.std.specs.Prelude.{ℕ, Bool, true, false, ◌&&◌, List, [], ◌∷◌, eqb, ltb, length, Option, Some, None}
use Rattle.area.specs.Pick.{pick}
use Rattle.text.specs.Unicode.{well_formed}
use Rattle.keys.specs.Key.{key_number, key_aux, key_value, key_at, key_ok}
use Rattle.keys.specs.Text.{FullKey, full, bare_of, text_in}
use Rattle.keys.specs.Location.{location_number, location_at, location_cases}
use Rattle.keys.specs.declared.KeyLocation.{KeyLocation}
use Rattle.keys.specs.declared.key_code.KeyCode.{KeyCode}
use Rattle.keys.specs.CodeKey.{code_key, code_of_key, code_key_ok}
use Rattle.lookup.specs.declared.keyboard.KeyLParam.{KeyLParam}
use Rattle.session.specs.Limits.{AREA, ENTRIES_MOST, UNITS_MOST, TEXT_MOST, KEY_TEXT_MOST, EVENT_SIZE, HELD_SIZE, INFO_SIZE, WAIT_SIZE}
use Rattle.session.specs.Event.{Event, Info, Held}
use Rattle.session.specs.Session.{Wait, press, release, character, Entry, waiting, complete, Session, in_order}
use Rattle.session.specs.Codec.{Codec, byte, number, nothing, pair, checked, via, slot, Either, left, right, either, list_of}
use Rattle.session.specs.declared.ElementState.{ElementState}
use Rattle.session.specs.declared.ElementState.TheVariants.{Pressed, Released}

-- ---- flags and small enums

abbrev pub flag_number : Bool → ℕ
flag_number false = 0
flag_number true = 1

unfoldable pub flag : Codec Bool
flag = via flag_number (λ n. eqb n 1) (checked (λ n. ltb n 2) byte)

unfoldable pub state_number : ElementState → ℕ
state_number Pressed = 0
state_number Released = 1

unfoldable pub state : Codec ElementState
state = via state_number (λ n. pick (eqb n 0) Pressed Released) (checked (λ n. ltb n 2) byte)

unfoldable pub location : Codec KeyLocation
location = via location_number location_at (checked (λ n. ltb n location_cases) byte)

-- ---- texts and keys

-- a text: its length, its bytes, zeros behind; no text has length 0
abbrev pub bytes_of : Option (List ℕ) → List ℕ
bytes_of None = []
bytes_of (Some t) = t

abbrev pub text_from : List ℕ → Option (List ℕ)
text_from [] = None
text_from (b ∷ t) = Some (b ∷ t)

unfoldable pub text_bytes : ℕ → Codec (List ℕ)
text_bytes most = checked well_formed (list_of 1 most byte)

unfoldable pub opt_text : Codec (Option (List ℕ))
opt_text = via bytes_of text_from (text_bytes TEXT_MOST)

-- a key code as the number that a layout's lists are ordered by: 32 bits of its native code, 8 of its kind, 8 of its place
unfoldable pub key_code : Codec KeyCode
key_code = via code_key code_of_key (checked code_key_ok (number 6))

-- a key: its number, what it holds beside it (two numbers), and its text, which a character has and no other key
unfoldable pub key_text_ok : ℕ → ℕ → Bool
key_text_ok number len = pick (eqb number 0) (ltb 0 len) (eqb len 0)

unfoldable pub key_fields_ok : (ℕ × (ℕ × ℕ)) × List ℕ → Bool
key_fields_ok k = key_ok k.0.0 k.0.1.0 k.0.1.1 && key_text_ok k.0.0 (length k.1)

unfoldable pub full_key : ℕ → Codec FullKey
full_key most =
    via (λ k. ((key_number (bare_of k), (key_aux (bare_of k), key_value (bare_of k))), text_in k)) (λ n. full (key_at n.0.0 n.0.1.0 n.0.1.1) n.1)
    (checked key_fields_ok (pair (pair (number 2) (pair byte (number 4))) (text_bytes most)))

-- ---- an event

unfoldable pub event : Codec Event
event =
    via
    (λ e. (e.physical_key, (e.logical_key, (e.text, (e.location, (e.state, (e.repeat, (e.synthetic, (e.text_with_all_modifiers, e.key_without_modifiers)))))))))
    (λ p. record {
      physical_key = p.0;
      logical_key = p.1.0;
      text = p.1.1.0;
      location = p.1.1.1.0;
      state = p.1.1.1.1.0;
      repeat = p.1.1.1.1.1.0;
      synthetic = p.1.1.1.1.1.1.0;
      text_with_all_modifiers = p.1.1.1.1.1.1.1.0;
      key_without_modifiers = p.1.1.1.1.1.1.1.1;
    })
    (pair key_code (pair (full_key TEXT_MOST) (pair opt_text (pair location (pair state (pair flag (pair flag (pair opt_text (full_key KEY_TEXT_MOST)))))))))

-- ---- what is kept of a press or a release

unfoldable pub info : Codec Info
info =
    via (λ n. (n.scancode, (n.repeat, (n.location, (n.logical_key, n.key_without_modifiers)))))
    (λ p. record { scancode = p.0; repeat = p.1.0; location = p.1.1.0; logical_key = p.1.1.1.0; key_without_modifiers = p.1.1.1.1 })
    (pair (number 2) (pair flag (pair location (pair (full_key KEY_TEXT_MOST) (full_key KEY_TEXT_MOST)))))

unfoldable pub held : Codec Held
held =
    via (λ h. (h.info, (h.vkey, (h.mark, h.units)))) (λ p. record { info = p.0; vkey = p.1.0; mark = p.1.1.0; units = p.1.1.1 })
    (pair info (pair (number 2) (pair flag (list_of 1 UNITS_MOST (number 2)))))

-- an open press: its virtual key, and of its lParam the scan code, the extended bit and the repeat
unfoldable pub pressed : Codec (ℕ × KeyLParam)
pressed =
    via (λ p. (p.0, (p.1.scancode, (p.1.extended, p.1.is_repeat))))
    (λ p. (p.0, record { scancode = p.1.0; extended = p.1.1.0; is_repeat = p.1.1.1 }))
    (pair (number 2) (pair byte (pair flag flag)))

-- ---- an entry: its token, whether it is complete, and what it holds, zeros behind

abbrev pub to_wait : Wait → Either (ℕ × KeyLParam) (Either Info (Unit {0}))
to_wait (press vkey l) = left (vkey, l)
to_wait (release n) = right (left n)
to_wait character = right (right tt)

abbrev pub from_wait : Either (ℕ × KeyLParam) (Either Info (Unit {0})) → Wait
from_wait (left p) = press p.0 p.1
from_wait (right (left n)) = release n
from_wait (right (right u)) = character

unfoldable pub wait : Codec Wait
wait = via to_wait from_wait (either (slot WAIT_SIZE pressed) (either info (slot INFO_SIZE nothing)))

abbrev pub to_entry : Entry → ℕ × Either Wait Event
to_entry (waiting t w) = (t, left w)
to_entry (complete t e) = (t, right e)

abbrev pub entry_of : ℕ → Either Wait Event → Entry
entry_of t (left w) = waiting t w
entry_of t (right e) = complete t e

unfoldable pub entry : Codec Entry
entry = via to_entry (λ p. entry_of p.0 p.1) (pair (number 2) (either (slot EVENT_SIZE wait) event))

-- ---- the session

abbrev pub to_held : Option Held → Either (Unit {0}) Held
to_held None = left tt
to_held (Some h) = right h

abbrev pub from_held : Either (Unit {0}) Held → Option Held
from_held (left u) = None
from_held (right h) = Some h

-- whether a press is held, and which
unfoldable pub held_field : Codec (Option Held)
held_field = via to_held from_held (either (slot HELD_SIZE nothing) held)

unfoldable pub session : Codec Session
session =
    slot AREA
    (via (λ s. (s.handed, (s.held, s.entries))) (λ p. record { handed = p.0; held = p.1.0; entries = p.1.1 })
    (pair (number 2) (pair held_field (list_of 2 ENTRIES_MOST entry))))

unfoldable pub encode : Session → List ℕ
encode s = session.put s

unfoldable pub decode : List ℕ → Session
decode x = session.get x

-- SCOPE 6.4: the session area is that of a session
unfoldable pub session_ok : List ℕ → Bool
session_ok x = session.ok x && in_order (decode x)

-- ---- the answer area

unfoldable pub answer : Codec (List Event)
answer = slot AREA (list_of 2 ENTRIES_MOST event)

unfoldable pub encode_answer : List Event → List ℕ
encode_answer es = answer.put es

unfoldable pub decode_answer : List ℕ → List Event
decode_answer y = answer.get y
