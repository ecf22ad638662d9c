-- The held press that an event completes, and where its event goes.
-- Assumes nothing.
use Rattle.std.specs.Prelude.{◌≡◌, true, false, List, ◌++◌, ℕ, ◌<◌, length, drop}
use Rattle.session.specs.Limits.{AREA, ENTRIES_MOST, KEY_TEXT_MOST, HELD_AT}
use Rattle.session.specs.Event.{Held}
use Rattle.session.specs.Codec.{pair}
use Rattle.session.specs.Area.{location, state, flag, opt_text, full_key, held}
use Rattle.session.specs.Builder.{typed_text}
use Rattle.session.specs.declared.ElementState.TheVariants.{Pressed}

-- the press that stands in a session's area
abbrev pub held_in : List ℕ → Held
held_in x = held.get (drop HELD_AT x)

-- a press is held, and its event has room in the area that the place tells
pub record Completing (x y : List ℕ) (place : ℕ) : Type 0 where
  pub session : length x ≡ AREA
  pub answers : length y ≡ AREA
  pub few : place < ENTRIES_MOST
  pub ok : held.ok (drop HELD_AT x) ≡ true

-- the bytes of its event from the marks on: they do not depend on what completes it
unfoldable pub rest_of : Held → List ℕ
rest_of h =
    (pair location (pair state (pair flag flag))).put (h.info.location, (Pressed, (h.info.repeat, false)))
    ++ (opt_text.put (typed_text h.units) ++ (full_key KEY_TEXT_MOST).put h.info.key_without_modifiers)
