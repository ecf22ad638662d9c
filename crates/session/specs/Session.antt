-- What lives between calls: the queue of entries, the tokens handed out, the held press.
-- Assumes nothing.
use Rattle.std.specs.Prelude.{ℕ, suc, Bool, true, false, ◌&&◌, List, [], ◌∷◌, eqb, ltb, leb, length, Option, Some, None}
use Rattle.area.specs.Pick.{pick}
use Rattle.text.specs.Unicode.{well_formed}
use Rattle.keys.specs.Key.{key_number, key_fits}
use Rattle.keys.specs.Text.{FullKey, bare_of, text_in}
use Rattle.keys.specs.CodeKey.{code_fits}
use Rattle.lookup.specs.declared.keyboard.KeyLParam.{KeyLParam}
use Rattle.session.specs.Limits.{OPEN_MOST, ENTRIES_MOST, TOKENS_MOST, UNITS_MOST, TEXT_MOST, KEY_TEXT_MOST, WORD}
use Rattle.session.specs.Event.{Event, Info, Held}

-- What an open message's finish will need of it: of a press its virtual key and what its lParam says, of a release all that its event
-- will be made of, of a character nothing.
pub data Wait : Type 0 where
  press : ℕ → KeyLParam → Wait
  release : Info → Wait
  character : Wait

-- tao's IdentifiedPendingMessage: a token, and an event that is incomplete or complete. So the unresolved entries are the open messages.
pub data Entry : Type 0 where
  waiting : ℕ → Wait → Entry
  complete : ℕ → Event → Entry

pub record Session : Type 0 where
  -- tokens handed out since the queue was empty
  pub handed : ℕ
  pub entries : List Entry
  pub held : Option Held

-- SCOPE 7.2: nothing open, no entry, no held press, no token handed out
unfoldable pub fresh_session : Session
fresh_session = record { handed = 0; entries = []; held = None }

abbrev pub token_of : Entry → ℕ
token_of (waiting t w) = t
token_of (complete t e) = t

-- how many messages are open
unfoldable pub open_count : List Entry → ℕ
open_count [] = 0
open_count (waiting t w ∷ r) = suc (open_count r)
open_count (complete t e ∷ r) = open_count r

-- ---- SCOPE 6.4, a session: tokens strictly rising and below the number handed out; the unresolved entries are the open messages in order;
-- the first entry is unresolved; no entries and no token handed out when nothing is open; the limits kept

-- tokens strictly rising from lo, below hi
unfoldable pub rising : ℕ → ℕ → List Entry → Bool
rising lo hi [] = true
rising lo hi (x ∷ r) = leb lo (token_of x) && (ltb (token_of x) hi && rising (suc (token_of x)) hi r)

-- the first entry is unresolved; without an entry nothing is open, and then no token is handed out
unfoldable pub first_open : ℕ → List Entry → Bool
first_open handed [] = eqb handed 0
first_open handed (waiting t w ∷ r) = true
first_open handed (complete t e ∷ r) = false

unfoldable pub units_within : Option Held → Bool
units_within None = true
units_within (Some h) = leb (length h.units) UNITS_MOST

-- SCOPE 6.4, but for the ranges
unfoldable pub in_order : Session → Bool
in_order s =
    rising 0 s.handed s.entries && (first_open s.handed s.entries && (leb (open_count s.entries) OPEN_MOST && (leb (length s.entries) ENTRIES_MOST && (leb s.handed TOKENS_MOST && units_within s.held))))

-- ---- the ranges of the types

-- a text: UTF-8, not empty, of at most so many bytes
unfoldable pub text_fits : ℕ → List ℕ → Bool
text_fits most t = ltb 0 (length t) && (leb (length t) most && well_formed t)

unfoldable pub opt_text_fits : Option (List ℕ) → Bool
opt_text_fits None = true
opt_text_fits (Some t) = text_fits TEXT_MOST t

-- a key of tao's whose text, which only a character has, has at most so many bytes
unfoldable pub full_key_fits : ℕ → FullKey → Bool
full_key_fits most k =
    key_fits (bare_of k) && pick (eqb (key_number (bare_of k)) 0) (text_fits most (text_in k)) true

unfoldable pub event_fits : Event → Bool
event_fits e =
    code_fits e.physical_key && (full_key_fits TEXT_MOST e.logical_key && (opt_text_fits e.text && (opt_text_fits e.text_with_all_modifiers && full_key_fits KEY_TEXT_MOST e.key_without_modifiers)))

unfoldable pub all_fit : List Event → Bool
all_fit [] = true
all_fit (e ∷ r) = event_fits e && all_fit r

unfoldable pub info_fits : Info → Bool
info_fits n =
    ltb n.scancode WORD && (full_key_fits KEY_TEXT_MOST n.logical_key && full_key_fits KEY_TEXT_MOST n.key_without_modifiers)

unfoldable pub units_fit : List ℕ → Bool
units_fit [] = true
units_fit (u ∷ us) = ltb u WORD && units_fit us

unfoldable pub held_fits : Option Held → Bool
held_fits None = true
held_fits (Some h) = info_fits h.info && (ltb h.vkey WORD && units_fit h.units)

unfoldable pub wait_fits : Wait → Bool
wait_fits (press vkey l) = ltb vkey WORD && ltb l.scancode 256
wait_fits (release n) = info_fits n
wait_fits character = true

unfoldable pub entry_fits : Entry → Bool
entry_fits (waiting t w) = wait_fits w
entry_fits (complete t e) = event_fits e

unfoldable pub entries_fit : List Entry → Bool
entries_fit [] = true
entries_fit (x ∷ r) = entry_fits x && entries_fit r

-- a session: SCOPE 6.4, and each stored value of its type
unfoldable pub is_session : Session → Bool
is_session s = in_order s && (entries_fit s.entries && held_fits s.held)
