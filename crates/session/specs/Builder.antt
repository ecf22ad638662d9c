-- The events that messages complete: PartialKeyEventInfo::from_message and finalize, and is_current_fake, of tao's keyboard.rs.
-- Assumes nothing.
use Rattle.std.specs.Prelude.{ℕ, Bool, true, false, not, ◌&&◌, List, [], ◌∷◌, ◌++◌, eqb, Option, Some, None}
use Rattle.area.specs.Pick.{pick}
use Rattle.area.specs.Look.{assoc}
use Rattle.text.specs.Unicode.{text_of, utf8_of}
use Rattle.segmentation.specs.Table.{Table, several_in}
use Rattle.segmentation.specs.Layout.{table_of}
use Rattle.keys.specs.Places.{control, num_lock, pause}
use Rattle.keys.specs.Text.{FullKey, named, character, unidentified, dead, dead_char, to_text}
use Rattle.keys.specs.declared.NativeKeyCode.TheVariants as native
use Rattle.keys.specs.declared.key_code.KeyCode.{KeyCode}
use Rattle.keys.specs.declared.key_code.KeyCode.TheVariants as code
use Rattle.keys.specs.Number.{code_number}
use Rattle.lookup.specs.Codes.{key_code_of}
use Rattle.lookup.specs.LParam.{ex_scancode_of}
use Rattle.lookup.specs.Modifiers.{active_modifiers, remove_only_ctrl, bits_of, num_lock_on}
use Rattle.lookup.specs.declared.keyboard.KeyLParam.{KeyLParam}
use Rattle.lookup.specs.declared.keyboard_layout.WindowsModifiers.{WindowsModifiers}
use Rattle.lookup.specs.Maps.{Maps}
use Rattle.lookup.specs.Block.{maps_of}
use Rattle.lookup.specs.Layout.{get_key, message_scancode, or_else}
use Rattle.lookup.specs.Location.{location_of}
use Rattle.session.specs.Given.{Inputs}
use Rattle.session.specs.declared.Message.{Message}
use Rattle.session.specs.Event.{Event, Info, Held}
use Rattle.session.specs.declared.ElementState.TheVariants.{Pressed, Released}

-- ---- what a call's inputs say

-- a keyboard at one moment: the layout and the state of the keys
pub record Keyboard : Type 0 where
  pub layout : Maps
  pub key_state : List ℕ

-- the layout that the block stands for
unfoldable pub keyboard_of : Inputs → Keyboard
keyboard_of i = record { layout = maps_of i.block; key_state = i.key_state }

-- the ranges that the break table stands for
unfoldable pub break_table_of : Inputs → Table
break_table_of i = table_of i.table

abbrev pub modifiers_in : Keyboard → WindowsModifiers
modifiers_in k = active_modifiers k.key_state

-- the layout's key, Control removed unless Alt is on
unfoldable pub layout_key : Keyboard → ℕ → ℕ → FullKey
layout_key b vkey scancode =
    get_key b.layout (bits_of (remove_only_ctrl (modifiers_in b))) (num_lock_on b.key_state) vkey scancode (key_code_of scancode)

-- the layout's key without modifiers: always by the Num Lock off list
unfoldable pub plain_key : Keyboard → ℕ → ℕ → FullKey
plain_key b vkey scancode = get_key b.layout 0 false vkey scancode (key_code_of scancode)

-- ---- from_message

-- SCOPE 3.7: with Control down the codes NumLock and Pause are the keys of those names, as logical key and without modifiers
unfoldable pub code_as_key : Bool → KeyCode → Option FullKey
code_as_key false c = None
code_as_key true c =
    assoc ((code_number code.NumLock, Some (named num_lock)) ∷ (code_number code.Pause, Some (named pause)) ∷ []) None (code_number c)

unfoldable pub forced_key : Keyboard → ℕ → Option FullKey
forced_key b scancode = code_as_key (modifiers_in b).control (key_code_of scancode)

-- SCOPE 3.16: a dead key without modifiers becomes its character in a press or release, unidentified where it has none
unfoldable pub undead : FullKey → FullKey
undead (named n) = named n
undead (character t) = character t
undead (unidentified c) = unidentified c
undead dead = unidentified native.Unidentified
undead (dead_char c) = character (utf8_of c)

-- what a press or a release of a virtual key is, read from layout and key state
unfoldable pub from_message : Keyboard → ℕ → KeyLParam → Info
from_message b vkey l =
    let scancode : ℕ = message_scancode b.layout vkey l in
    record {
      scancode = scancode;
      repeat = l.is_repeat;
      location = location_of b.layout scancode;
      logical_key = or_else (forced_key b scancode) (layout_key b vkey scancode);
      key_without_modifiers = or_else (forced_key b scancode) (undead (plain_key b vkey scancode));
    }

unfoldable pub is_character : FullKey → Bool
is_character (named n) = false
is_character (character t) = true
is_character (unidentified c) = false
is_character dead = false
is_character (dead_char c) = false

-- SCOPE 3.13: a press's typed text may become its logical key where the layout's answer is a character and Control is off
-- (NumLock and Pause are forced only with Control on)
unfoldable pub mark_of : Keyboard → Info → Bool
mark_of b n = is_character n.logical_key && not (modifiers_in b).control

-- the press as it is held at its finish, with no units yet
unfoldable pub held_of : Keyboard → ℕ → KeyLParam → Held
held_of b vkey l =
    let n : Info = from_message b vkey l in record { info = n; vkey = vkey; mark = mark_of b n; units = [] }

-- a held press with the units of character messages added
unfoldable pub with_units : Held → List ℕ → Held
with_units h us = record { info = h.info; vkey = h.vkey; mark = h.mark; units = h.units ++ us }

-- ---- finalize

-- SCOPE 3.12: unpaired surrogates give no text, and no unit gives none
unfoldable pub typed_text : List ℕ → Option (List ℕ)
typed_text [] = None
typed_text (u ∷ us) = text_of (u ∷ us)

-- SCOPE 3.13: a typed text becomes the logical key unless it has several pieces; then the layout's key stands.
-- SCOPE 3.6: without a text the key is unidentified, with its scan code.
unfoldable pub typed_key : Bool → FullKey → ℕ → Option (List ℕ) → FullKey
typed_key several layout scancode None = unidentified (native.Windows scancode)
typed_key several layout scancode (Some t) = pick several layout (character t)

-- the event of a press, with its text, whether that has several pieces, and the text with all modifiers
unfoldable pub finalize : Held → Bool → Option (List ℕ) → Option (List ℕ) → Event
finalize h several text all =
    record {
      physical_key = key_code_of h.info.scancode;
      logical_key = pick h.mark (typed_key several h.info.logical_key h.info.scancode text) h.info.logical_key;
      text = text;
      location = h.info.location;
      state = Pressed;
      repeat = h.info.repeat;
      synthetic = false;
      text_with_all_modifiers = all;
      key_without_modifiers = h.info.key_without_modifiers;
    }

-- the event of a press that no character message follows
unfoldable pub press_event : Held → Event
press_event h = finalize h false None None

-- the event that a dead character message completes: the text that was typed before it is only that with all modifiers
unfoldable pub dead_char_event : Held → Event
dead_char_event h = finalize h false None (typed_text h.units)

-- SCOPE 3.11: at the last character Control counts, on AltGr layouts only without Alt
unfoldable pub control_counts : Keyboard → Bool
control_counts b =
    pick b.layout.has_alt_graph ((modifiers_in b).control && not (modifiers_in b).alt) (modifiers_in b).control

-- SCOPE 3.11: where it counts, the text comes from the layout, Control removed unless Alt is down
unfoldable pub last_text : Keyboard → Held → Option (List ℕ)
last_text b h =
    pick (control_counts b) (to_text (layout_key b h.vkey h.info.scancode)) (typed_text h.units)

-- SCOPE 3.13: whether a text has several pieces, by the break table
unfoldable pub several_text : Table → Option (List ℕ) → Bool
several_text r None = false
several_text r (Some t) = several_in r t

-- the event that the last character message completes. SCOPE 3.12: the text with all modifiers is the typed units'
unfoldable pub char_event : Keyboard → Table → Held → Event
char_event b r h = finalize h (several_text r (last_text b h)) (last_text b h) (typed_text h.units)

-- a release has no texts
unfoldable pub release_event : Info → Event
release_event n =
    record {
      physical_key = key_code_of n.scancode;
      logical_key = n.logical_key;
      text = None;
      location = n.location;
      state = Released;
      repeat = n.repeat;
      synthetic = false;
      text_with_all_modifiers = None;
      key_without_modifiers = n.key_without_modifiers;
    }

-- ---- is_current_fake

unfoldable pub is_control : FullKey → Bool
is_control (named n) = eqb n control
is_control (character t) = false
is_control (unidentified c) = false
is_control dead = false
is_control (dead_char c) = false

-- SCOPE 3.8: the AltGr flag, the logical key Control, and the next scan code E038, read from the peeked lParam alone
unfoldable pub fake : Keyboard → Info → Option Message → Bool
fake b n None = false
fake b n (Some m) = b.layout.has_alt_graph && (is_control n.logical_key && eqb (ex_scancode_of m.lparam) 0xE038)
