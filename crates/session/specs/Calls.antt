-- What an answered call does, on sessions: the token, the events handed out, the session after.
-- Assumes nothing.
use Rattle.std.specs.Prelude.{ℕ, suc, ◌+◌, Bool, true, false, List, [], ◌∷◌, ◌++◌, eqb, length, Option, Some, None}
use Rattle.area.specs.Pick.{pick}
use Rattle.area.specs.Look.{assoc}
use Rattle.text.specs.Message.{char_units}
use Rattle.segmentation.specs.Table.{Table}
use Rattle.lookup.specs.LParam.{key_lparam, virtual_key}
use Rattle.session.specs.Given.{Given, brought, finished, WM_SETFOCUS, WM_KILLFOCUS, WM_KEYDOWN, WM_KEYUP, WM_CHAR, WM_DEADCHAR, WM_SYSKEYDOWN, WM_SYSKEYUP, WM_SYSCHAR, WM_SYSDEADCHAR, WM_QUIT, VK_F4}
use Rattle.session.specs.declared.Message.{Message}
use Rattle.session.specs.Event.{Event, Held}
use Rattle.session.specs.Builder.{Keyboard, keyboard_of, break_table_of, from_message, held_of, with_units, press_event, dead_char_event, char_event, release_event, fake}
use Rattle.session.specs.Focus.{focus_events}
use Rattle.session.specs.Session.{Wait, press, release, character, Entry, waiting, complete, Session, token_of}
use Rattle.session.specs.declared.ElementState.{ElementState}
use Rattle.session.specs.declared.ElementState.TheVariants.{Pressed, Released}

-- ---- what a message is to the calls

pub data Sort : Type 0 where
  key_down key_up char dead_char ignored : Sort
  focus : ElementState → Sort

-- SCOPE 3.2: 104 with the whole wParam 73 (F4) does nothing
unfoldable pub sort_of : Message → Sort
sort_of m =
    assoc
    ((WM_KEYDOWN, key_down) ∷ (WM_SYSKEYDOWN, pick (eqb m.wparam VK_F4) ignored key_down) ∷ (WM_KEYUP, key_up) ∷ (WM_SYSKEYUP, key_up) ∷ (WM_CHAR, char) ∷ (WM_SYSCHAR, char) ∷ (WM_DEADCHAR, dead_char) ∷ (WM_SYSDEADCHAR, dead_char) ∷ (WM_SETFOCUS, focus Pressed) ∷ (WM_KILLFOCUS, focus Released) ∷ [])
    ignored
    m.kind

-- ---- what a call does to the session

pub record Effect : Type 0 where
  -- the token of the message that was opened
  pub token : Option ℕ
  -- the events handed out
  pub events : List Event
  pub after : Session

abbrev pub nothing_done : Session → Effect
nothing_done s = record { token = None; events = []; after = s }

-- an unresolved entry at the end, under the next token (add_pending)
unfoldable pub opening : Session → Wait → Option Held → Effect
opening s w h =
    record {
      token = Some s.handed;
      events = [];
      after = record { handed = suc s.handed; entries = s.entries ++ (waiting s.handed w ∷ []); held = h };
    }

-- complete entries for events, with tokens from t on
unfoldable pub numbered : ℕ → List Event → List Entry
numbered t [] = []
numbered t (e ∷ r) = complete t e ∷ numbered (suc t) r

-- SCOPE 4.4: events at the end of the queue, straight out of an empty one (complete_multi)
unfoldable pub behind : Session → List Event → Option Held → List Entry → Effect
behind s es h [] = record { token = None; events = es; after = record { handed = s.handed; entries = []; held = h } }
behind s es h (x ∷ r) =
    record {
      token = None;
      events = [];
      after = record { handed = s.handed + length es; entries = (x ∷ r) ++ numbered s.handed es; held = h };
    }

-- SCOPE 3.9: 102 and 106 with no held press do nothing
unfoldable pub char_opened : Session → Message → Option Held → Effect
char_opened s m None = nothing_done s
char_opened s m (Some h) = opening s character (Some (with_units h (char_units m.wparam)))

unfoldable pub dead_char_answered : Session → Option Held → Effect
dead_char_answered s None = nothing_done s
dead_char_answered s (Some h) = behind s (dead_char_event h ∷ []) None s.entries

unfoldable pub message_effect : Session → Keyboard → Message → Sort → Effect
message_effect s b m key_down = opening s (press (virtual_key m.wparam) (key_lparam m.lparam)) s.held
message_effect s b m key_up =
    opening s (release (from_message b (virtual_key m.wparam) (key_lparam m.lparam))) s.held
message_effect s b m char = char_opened s m s.held
message_effect s b m dead_char = dead_char_answered s s.held
message_effect s b m (focus st) = behind s (focus_events b st) s.held s.entries
message_effect s b m ignored = nothing_done s

-- ---- a finish

-- SCOPE 3.17: a peeked WM_QUIT counts as nothing peeked, whatever its parameters
unfoldable pub seen : Option Message → Option Message
seen None = None
seen (Some m) = assoc ((WM_QUIT, None) ∷ []) (Some m) m.kind

-- SCOPE 3.5: a peeked kind other than 100, 101, 104, 105 makes this press the held one; nothing peeked does not
unfoldable pub holds : Option Message → Bool
holds None = false
holds (Some m) = assoc ((WM_KEYDOWN, false) ∷ (WM_KEYUP, false) ∷ (WM_SYSKEYDOWN, false) ∷ (WM_SYSKEYUP, false) ∷ []) true m.kind

-- SCOPE 3.10: where the peeked kind is 102 or 106 more is coming
unfoldable pub more_coming : Option Message → Bool
more_coming None = false
more_coming (Some m) = assoc ((WM_CHAR, true) ∷ (WM_SYSCHAR, true) ∷ []) false m.kind

-- the event that the finish of a message gives, if any
unfoldable pub finish_event : Keyboard → Table → Option Held → Wait → Option Message → Option Event
finish_event b r h (press vkey l) p =
    pick (holds p) None (pick (fake b (from_message b vkey l) p) None (Some (press_event (held_of b vkey l))))
finish_event b r h (release n) p = pick (fake b n p) None (Some (release_event n))
finish_event b r None character p = None
finish_event b r (Some h) character p = pick (more_coming p) None (Some (char_event b r h))

-- the press that is held after it
unfoldable pub finish_held : Keyboard → Option Held → Wait → Option Message → Option Held
finish_held b h (press vkey l) p = pick (holds p) (Some (held_of b vkey l)) None
finish_held b h (release n) p = h
finish_held b None character p = None
finish_held b (Some h) character p = pick (more_coming p) (Some h) None

-- SCOPE 4.1: the search for a token stops at the first entry that carries it
abbrev pub wait_in : Entry → Option Wait
wait_in (waiting t w) = Some w
wait_in (complete t e) = None

unfoldable pub find_wait : ℕ → List Entry → Option Wait
find_wait t [] = None
find_wait t (x ∷ r) = pick (eqb t (token_of x)) (wait_in x) (find_wait t r)

-- SCOPE 4.2: its entry completed, or dropped where there is no event
unfoldable pub in_place : ℕ → Option Event → List Entry → List Entry
in_place t None r = r
in_place t (Some e) r = complete t e ∷ r

unfoldable pub resolve : ℕ → Option Event → List Entry → List Entry
resolve t o [] = []
resolve t o (x ∷ r) = pick (eqb t (token_of x)) (in_place t o r) (x ∷ resolve t o r)

unfoldable pub is_first : ℕ → List Entry → Bool
is_first t [] = false
is_first t (x ∷ r) = eqb t (token_of x)

-- the events of the complete entries (drain_pending)
unfoldable pub drain : List Entry → List Event
drain [] = []
drain (waiting t w ∷ r) = drain r
drain (complete t e ∷ r) = e ∷ drain r

-- SCOPE 4.3: resolving the first entry, by completing or dropping it, empties the queue and hands out the completed events; any other completed
-- entry waits. SCOPE 4.5: token numbers restart when the queue empties.
unfoldable pub resolved : Bool → Session → ℕ → Option Event → Option Held → Effect
resolved true s t o h =
    record { token = None; events = drain (resolve t o s.entries); after = record { handed = 0; entries = []; held = h } }
resolved false s t o h =
    record { token = None; events = []; after = record { handed = s.handed; entries = resolve t o s.entries; held = h } }

unfoldable pub finish_effect : Session → Keyboard → Table → ℕ → Option Message → Option Wait → Effect
finish_effect s b r t p None = nothing_done s
finish_effect s b r t p (Some w) =
    resolved (is_first t s.entries) s t (finish_event b r s.held w p) (finish_held b s.held w p)

unfoldable pub effect_of : Session → Given → Effect
effect_of s (brought i m) = message_effect s (keyboard_of i) m (sort_of m)
effect_of s (finished i t p) = finish_effect s (keyboard_of i) (break_table_of i) t (seen p) (find_wait t s.entries)
