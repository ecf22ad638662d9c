-- What is read from the layout and not written yet: its texts are parts of the block. What completes a held press.
-- Assumes nothing.
use Rattle.std.specs.Prelude.{ℕ, ◌≤◌, ◌≡◌, Bool, true, false, List, length, Option}
use Rattle.area.specs.Pick.{pick}
use Rattle.keys.specs.Text.{FullKey, character, unidentified, text_from}
use Rattle.keys.specs.declared.NativeKeyCode.TheVariants.{Windows}
use Rattle.lookup.specs.Layout.{part_of, key_in}
use Rattle.lookup.specs.declared.keyboard_layout.LayoutKey.{LayoutKey}
use Rattle.session.specs.Limits.{TEXT_MOST, KEY_TEXT_MOST}
use Rattle.session.specs.Event.{Event, Info, Held}
use Rattle.session.specs.Session.{full_key_fits}
use Rattle.session.specs.Area.{bytes_of}
use Rattle.session.specs.Builder.{undead, typed_text, finalize}
use Rattle.session.specs.declared.PartialKeyEventInfo.{PartialKeyEventInfo}
use Rattle.session.specs.declared.KeyEvent.{KeyEvent}
use Rattle.session.specs.declared.LastText.{LastText}
use Rattle.session.specs.declared.LastText.TheVariants.{Typed, Layout}
use Rattle.session.specs.declared.LastKey.{LastKey}
use Rattle.session.specs.declared.LastKey.TheVariants as last

-- what is kept of a press or a release: its key without modifiers is written as its character where it is dead (SCOPE 3.16)
unfoldable pub info_in : List ℕ → PartialKeyEventInfo → Info
info_in block n =
    record {
      scancode = n.scancode;
      repeat = n.is_repeat;
      location = n.location;
      logical_key = key_in block n.logical_key;
      key_without_modifiers = undead (key_in block n.key_without_modifiers);
    }

-- SCOPE 3.16: a dead key without modifiers becomes its character, but stays dead in a focus event
unfoldable pub plain_in : List ℕ → Bool → LayoutKey → FullKey
plain_in block dead k = pick dead (key_in block k) (undead (key_in block k))

-- an event: both texts are what the logical key gives, or none (SCOPE 3.6, 3.12)
unfoldable pub event_in : List ℕ → KeyEvent → Event
event_in block e =
    record {
      physical_key = e.physical_key;
      logical_key = key_in block e.logical_key;
      text = text_from (part_of block e.logical_key) e.text;
      location = e.location;
      state = e.state;
      repeat = e.repeat;
      synthetic = e.is_synthetic;
      text_with_all_modifiers = text_from (part_of block e.logical_key) e.text;
      key_without_modifiers = plain_in block e.dead e.key_without_modifiers;
    }

-- ---- the keys and texts are within the fields that the areas have for them

abbrev pub FitsIn : List ℕ → LayoutKey → Type 0
FitsIn block k = full_key_fits KEY_TEXT_MOST (key_in block k) ≡ true

pub record InfoIn (block : List ℕ) (n : PartialKeyEventInfo) : Type 0 where
  pub logical_key : FitsIn block n.logical_key
  pub key_without_modifiers : FitsIn block n.key_without_modifiers

pub record EventIn (block : List ℕ) (e : KeyEvent) : Type 0 where
  pub logical_key : FitsIn block e.logical_key
  pub text : length (bytes_of (text_from (part_of block e.logical_key) e.text)) ≤ TEXT_MOST
  pub key_without_modifiers : FitsIn block e.key_without_modifiers

-- ---- what completes a held press

-- SCOPE 3.11, its text, where its units are us: theirs, or what a key of the layout gives
unfoldable pub last_in : List ℕ → List ℕ → LastText → Option (List ℕ)
last_in block us Typed = typed_text us
last_in block us (Layout k t) = text_from (part_of block k) t

abbrev pub LastFits : List ℕ → LastText → Type 0
LastFits block Typed = Unit {0}
LastFits block (Layout k t) = length (bytes_of (text_from (part_of block k) t)) ≤ TEXT_MOST

-- SCOPE 3.6, 3.13, its logical key, where its text is t
unfoldable pub last_key : LastKey → Info → Option (List ℕ) → FullKey
last_key last.Held n t = n.logical_key
last_key last.Unidentified n t = unidentified (Windows n.scancode)
last_key last.Text n t = character (bytes_of t)

-- the press, with its logical key decided
abbrev pub decided : Held → FullKey → Held
decided h key =
    record {
      info = record {
        scancode = h.info.scancode;
        repeat = h.info.repeat;
        location = h.info.location;
        logical_key = key;
        key_without_modifiers = h.info.key_without_modifiers;
      };
      vkey = h.vkey;
      mark = false;
      units = h.units;
    }

-- its event, with that key and text. SCOPE 3.12: the text with all modifiers is the typed units'
unfoldable pub completed_with : Held → FullKey → Option (List ℕ) → Event
completed_with h key t = finalize (decided h key) false t (typed_text h.units)
