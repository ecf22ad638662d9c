-- The book for demand 3 (SCOPE 7.5). It is fed each call's arguments without the areas, and whether the call was refused; of the answers it
-- sees nothing.
-- With the calls it shares what makes events and fakes (Builder, Focus), and nothing that decides what is held, open, ignored or queued.
-- Assumes nothing.
use Rattle.std.specs.Prelude.{ℕ, suc, Bool, true, false, not, ◌&&◌, ◌||◌, List, [], ◌∷◌, ◌++◌, eqb, leb, Option, Some, None}
use Rattle.area.specs.Pick.{pick}
use Rattle.text.specs.Message.{char_units}
use Rattle.lookup.specs.LParam.{key_lparam, virtual_key}
use Rattle.session.specs.Given.{Inputs, Given, brought, finished}
use Rattle.session.specs.declared.Message.{Message}
use Rattle.session.specs.Event.{Event, Info, Held}
use Rattle.session.specs.Builder.{keyboard_of, break_table_of, from_message, held_of, with_units, press_event, dead_char_event, char_event, release_event, fake}
use Rattle.session.specs.Focus.{focus_events}
use Rattle.session.specs.declared.ElementState.TheVariants.{Pressed, Released}

-- ---- what the book keeps

-- an open message: its number of arrival and what its open brought
pub record Arrival : Type 0 where
  pub number : ℕ
  pub inputs : Inputs
  pub message : Message

-- the held press: its message, what its finish brought, and the units that characters added
pub record Press : Type 0 where
  pub inputs : Inputs
  pub message : Message
  pub units : List ℕ

-- an event under the number of the message that completed it
pub record Note : Type 0 where
  pub number : ℕ
  pub event : Event

-- SCOPE 7.5: the open messages, the held press, a count of arrivals, the events noted
pub record Book : Type 0 where
  -- the latest first
  pub opened : List Arrival
  pub held : Option Press
  pub count : ℕ
  -- by rising number
  pub noted : List Note

-- SCOPE 7.5: at first there are none
unfoldable pub empty_book : Book
empty_book = record { opened = []; held = None; count = 0; noted = [] }

-- ---- kinds of messages, as SCOPE 2.3 and 7.6 to 7.10 list them

abbrev pub press_kind : ℕ → Bool
press_kind k = eqb k 0x100 || eqb k 0x104

abbrev pub release_kind : ℕ → Bool
release_kind k = eqb k 0x101 || eqb k 0x105

abbrev pub character_kind : ℕ → Bool
character_kind k = eqb k 0x102 || eqb k 0x106

abbrev pub dead_character_kind : ℕ → Bool
dead_character_kind k = eqb k 0x103 || eqb k 0x107

-- SCOPE 3.2: 104 with the whole wParam 73 (F4) does nothing
abbrev pub closes_window : Message → Bool
closes_window m = eqb m.kind 0x104 && eqb m.wparam 0x73

-- ---- noting

-- behind those with the same or a smaller number
unfoldable pub note_in : ℕ → Event → List Note → List Note
note_in n e [] = record { number = n; event = e } ∷ []
note_in n e (x ∷ r) = pick (leb x.number n) (x ∷ note_in n e r) (record { number = n; event = e } ∷ x ∷ r)

unfoldable pub note_all : ℕ → List Event → List Note → List Note
note_all n [] l = l
note_all n (e ∷ r) l = note_all n r (note_in n e l)

-- what a press or a release is
abbrev pub info_of : Inputs → Message → Info
info_of i m = from_message (keyboard_of i) (virtual_key m.wparam) (key_lparam m.lparam)

abbrev pub press_of : Inputs → Message → Held
press_of i m = held_of (keyboard_of i) (virtual_key m.wparam) (key_lparam m.lparam)

-- the held press with its units
unfoldable pub held_press : Press → Held
held_press h = with_units (press_of h.inputs h.message) h.units

-- the held press, or none, as the session keeps it
abbrev pub held_in : Option Press → Option Held
held_in None = None
held_in (Some q) = Some (held_press q)

-- ---- a message

-- SCOPE 7.6: it takes the next number. SCOPE 7.7: what opens goes last among the open
unfoldable pub book_open : Book → Inputs → Message → Option Press → Book
book_open b i m h =
    record { opened = record { number = b.count; inputs = i; message = m } ∷ b.opened; held = h; count = suc b.count; noted = b.noted }

-- SCOPE 7.7: 102 and 106 also add their units to the held press; without one the message is ignored
unfoldable pub book_character : Book → Inputs → Message → Option Press → Book
book_character b i m None = b
book_character b i m (Some h) =
    book_open b i m (Some (record { inputs = h.inputs; message = h.message; units = h.units ++ char_units m.wparam }))

-- SCOPE 7.8: the held press's event is noted under the message's number, and nothing is held. SCOPE 7.6: with none held nothing changes
unfoldable pub book_dead_character : Book → Option Press → Book
book_dead_character b None = b
book_dead_character b (Some h) =
    record { opened = b.opened; held = None; count = suc b.count; noted = note_in b.count (dead_char_event (held_press h)) b.noted }

-- SCOPE 7.9: the events of a focus change, under the message's number
unfoldable pub book_focus : Book → List Event → Book
book_focus b es = record { opened = b.opened; held = b.held; count = suc b.count; noted = note_all b.count es b.noted }

-- SCOPE 7.6: an ignored message changes nothing
unfoldable pub book_message : Book → Inputs → Message → Book
book_message b i m =
    pick (closes_window m) b
    (pick (press_kind m.kind || release_kind m.kind) (book_open b i m b.held)
    (pick (character_kind m.kind) (book_character b i m b.held)
    (pick (dead_character_kind m.kind) (book_dead_character b b.held)
    (pick (eqb m.kind 0x7) (book_focus b (focus_events (keyboard_of i) Pressed)) (pick (eqb m.kind 0x8) (book_focus b (focus_events (keyboard_of i) Released)) b)))))

-- ---- a finish

-- SCOPE 3.17: what was peeked, unless it is 12
unfoldable pub unless_quit : Option Message → Option Message
unless_quit None = None
unless_quit (Some m) = pick (eqb m.kind 0x12) None (Some m)

-- SCOPE 3.5: a peeked kind other than 100, 101, 104, 105
unfoldable pub makes_held : Option Message → Bool
makes_held None = false
makes_held (Some m) = not (press_kind m.kind || release_kind m.kind)

-- SCOPE 3.10: where the peeked kind is 102 or 106 more is coming
unfoldable pub more_to_come : Option Message → Bool
more_to_come None = false
more_to_come (Some m) = character_kind m.kind

-- SCOPE 7.10: an event is noted under its number unless fake
unfoldable pub note_unless : Bool → ℕ → Event → List Note → List Note
note_unless is_fake n e l = pick is_fake l (note_in n e l)

-- `os`: the others that are open.
-- SCOPE 7.10, a press: it is held where what was peeked says so; else nothing is, and its event is noted under its number unless fake
unfoldable pub finish_press : Book → List Arrival → Arrival → Inputs → Option Message → Book
finish_press b os a i p =
    pick (makes_held p)
    (record { opened = os; held = Some (record { inputs = i; message = a.message; units = [] }); count = b.count; noted = b.noted })
    (record { opened = os; held = None; count = b.count; noted = note_unless (fake (keyboard_of i) (info_of i a.message) p) a.number (press_event (press_of i a.message)) b.noted })

-- SCOPE 7.10, a release; SCOPE 3.4: made from what its open brought, the fake test by the finish's block
unfoldable pub finish_release : Book → List Arrival → Arrival → Inputs → Option Message → Book
finish_release b os a i p =
    record { opened = os; held = b.held; count = b.count; noted = note_unless (fake (keyboard_of i) (info_of a.inputs a.message) p) a.number (release_event (info_of a.inputs a.message)) b.noted }

-- SCOPE 7.10, a character: nothing if more is coming or no press is held; else the held press's event is noted under the character's number,
-- and nothing is held
unfoldable pub finish_character : Bool → Option Press → Book → List Arrival → ℕ → Inputs → Book
finish_character true h b os n i = record { opened = os; held = h; count = b.count; noted = b.noted }
finish_character false None b os n i = record { opened = os; held = None; count = b.count; noted = b.noted }
finish_character false (Some h) b os n i =
    record { opened = os; held = None; count = b.count; noted = note_in n (char_event (keyboard_of i) (break_table_of i) (held_press h)) b.noted }

-- SCOPE 7.10: a finish takes out the last open message
unfoldable pub book_finish : Book → Inputs → Option Message → List Arrival → Book
book_finish b i p [] = b
book_finish b i p (a ∷ os) =
    pick (press_kind a.message.kind) (finish_press b os a i p)
    (pick (release_kind a.message.kind) (finish_release b os a i p) (finish_character (more_to_come p) b.held b os a.number i))

-- ---- a call. SCOPE 7.6: a refused one changes nothing
unfoldable pub book_step : Bool → Book → Given → Book
book_step true b g = b
book_step false b (brought i m) = book_message b i m
book_step false b (finished i t p) = book_finish b i (unless_quit p) b.opened
