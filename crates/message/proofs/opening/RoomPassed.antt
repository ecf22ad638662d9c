-- What each kind of message may count on, once its questions are passed.
-- Assumes nothing.
use Rattle.std.specs.Prelude.{Option, Some}
use mathlib.Core.Path.{◌≡◌, refl}
use mathlib.Core.Bool.{true}
use mathlib.Core.List.{List}
use Prim.Native.Nat.{ℕ, ◌+◌, ◌≤◌}
use native.Mathlib.Omega.{arith}
use lib.ListN.{length, length-append}
use borrow.Author.Tests.{leb-true}
use Rattle.text.specs.Message.{char_units}
use Rattle.session.specs.Limits.{ENTRIES_MOST, TOKENS_MOST, UNITS_MOST}
use Rattle.session.specs.Event.{Held}
use Rattle.session.specs.declared.Message.{Message}
use Rattle.session.specs.Session.{Session}
use Rattle.session.specs.Area.{decode}
use Rattle.session.specs.Builder.{Keyboard, with_units}
use Rattle.session.specs.Calls.{Sort, char}
use Rattle.session.specs.Focus.{focus_events}
use Rattle.session.specs.Questions.{is_held, behind_some, new_entries, units_after, question5, question7, question8, question9}
use Rattle.session.specs.declared.ElementState.{ElementState}
use Rattle.queue.specs.Room.{IsArea, HasRoom}
use Rattle.questions.specs.Sorts.{as_sort}
use Rattle.questions.specs.declared.sorts.MessageSort.{MessageSort}
use Rattle.questions.specs.declared.sorts.MessageSort.TheVariants as sort
use Rattle.message.specs.Gives.{MayChar, FitBehind}
use Rattle.message.specs.Passes.{Passes}

-- ---- room for so many new entries

module _ (s : Session) (b : Keyboard) (m : Message) (k : Sort) (p : Passes s b m k) {n : ℕ} (e : new_entries s b k ≡ n) where
  entries-within : length s.entries + n ≤ ENTRIES_MOST
  unfolding question7
  entries-within = rw e at (leb-true (length s.entries + new_entries s b k) ENTRIES_MOST p.entries)

  tokens-within : s.handed + n ≤ TOKENS_MOST
  unfolding question8
  tokens-within = rw e at (leb-true (s.handed + new_entries s b k) TOKENS_MOST p.tokens)

-- the units held with a character
units_now : (o : Option Held) (h : Held) (m : Message) → o ≡ Some h → units_after o m char ≡ length h.units + length (char_units m.wparam)
unfolding units_after with_units
units_now o h m e = rw e (length-append h.units (char_units m.wparam))

module _ (x : List ℕ) (a : IsArea x) (b : Keyboard) (m : Message) (k : MessageSort) (p : Passes (decode x) b m (as_sort k)) where
  one_more : new_entries (decode x) b (as_sort k) ≡ 1 → HasRoom x
  one_more e =
      let n = entries-within (decode x) b m (as_sort k) p e in
      let t = tokens-within (decode x) b m (as_sort k) p e in
      record { area = a; entry = omega arith; token = omega arith }

  pub press_room : k ≡ sort.KeyDown → HasRoom x
  unfolding as_sort new_entries
  press_room e = one_more (rw e refl)

  pub release_room : k ≡ sort.KeyUp → HasRoom x
  unfolding as_sort new_entries
  release_room e = one_more (rw e refl)

  pub dead-char_room : k ≡ sort.DeadChar → HasRoom x
  unfolding as_sort new_entries
  dead-char_room e = one_more (rw e refl)

  pub dead-char-held : k ≡ sort.DeadChar → is_held (decode x).held ≡ true
  unfolding as_sort question5
  dead-char-held e = rw e at p.held

  -- a character, should a press be held
  held_room : k ≡ sort.Char → is_held (decode x).held ≡ true → HasRoom x
  unfolding as_sort new_entries
  held_room e h = one_more (rw (e, h) refl)

  units-within : k ≡ sort.Char → (h : Held) → (decode x).held ≡ Some h → length h.units + length (char_units m.wparam) ≤ UNITS_MOST
  unfolding as_sort question9
  units-within e h f = rw (e, units_now (decode x).held h m f) at (leb-true (units_after (decode x).held m (as_sort k)) UNITS_MOST p.units)

  pub may_char : k ≡ sort.Char → MayChar x m.wparam
  may_char e =
      record { area = a; entry = λ h. (held_room e h).entry; token = λ h. (held_room e h).token; units = units-within e }

  -- a focus change
  module _ (st : ElementState) (e : k ≡ sort.Focus st) where
    abbrev new : ℕ
    new = behind_some (decode x).entries (length (focus_events b st))

    focus_new : new_entries (decode x) b (as_sort k) ≡ new
    unfolding as_sort new_entries
    focus_new = rw e refl

    pub focus_fits : FitBehind (decode x) (focus_events b st)
    focus_fits =
        record {
          entries = entries-within (decode x) b m (as_sort k) p focus_new;
          tokens = tokens-within (decode x) b m (as_sort k) p focus_new;
        }
