-- The events of a focus change: synthesize_kbd_state and create_synthetic of tao's keyboard.rs.
-- Assumes nothing.
use Rattle.std.specs.Prelude.{ℕ, zero, suc, ◌+◌, Bool, true, false, not, ◌&&◌, List, [], ◌∷◌, ◌++◌, eqb, Option, None}
use Rattle.area.specs.Pick.{pick}
use Rattle.area.specs.Look.{assoc}
use Rattle.keys.specs.Text.{FullKey, to_text}
use Rattle.lookup.specs.Codes.{key_code_of}
use Rattle.lookup.specs.Modifiers.{down, num_lock_on, caps_lock_on}
use Rattle.lookup.specs.Layout.{get_key, scan_code_for}
use Rattle.lookup.specs.Location.{location_of}
use Rattle.session.specs.Limits.{KEYS}
use Rattle.session.specs.Event.{Event}
use Rattle.session.specs.Builder.{Keyboard, plain_key}
use Rattle.session.specs.declared.ElementState.{ElementState}
use Rattle.session.specs.declared.ElementState.TheVariants.{Pressed, Released}

-- SCOPE 3.14: LCONTROL, LSHIFT, LMENU, RCONTROL, RSHIFT, RMENU
unfoldable pub modifier_keys : List ℕ
modifier_keys = 0xA2 ∷ 0xA0 ∷ 0xA4 ∷ 0xA3 ∷ 0xA1 ∷ 0xA5 ∷ []

abbrev pub VK_CAPITAL : ℕ
VK_CAPITAL = 0x14

-- the keys that are not among the others: Caps Lock, VK_SHIFT, VK_CONTROL, VK_MENU and the six
unfoldable pub is_other : ℕ → Bool
is_other vk =
    assoc
    ((VK_CAPITAL, false) ∷ (0x10, false) ∷ (0x11, false) ∷ (0x12, false) ∷ (0xA0, false) ∷ (0xA1, false) ∷ (0xA2, false) ∷ (0xA3, false) ∷ (0xA4, false) ∷ (0xA5, false) ∷ [])
    true
    vk

-- the others, ascending, m of them from vk on
unfoldable pub others_from : ℕ → ℕ → List ℕ
others_from zero vk = []
others_from (suc m) vk = pick (is_other vk) (vk ∷ []) [] ++ others_from m (vk + 1)

-- SCOPE 3.14: Caps Lock (14) first in both; at gain the others ascending, then the six; at loss the six, then the others
unfoldable pub focus_keys : ElementState → List ℕ
focus_keys Pressed = VK_CAPITAL ∷ (others_from KEYS 0 ++ modifier_keys)
focus_keys Released = VK_CAPITAL ∷ (modifier_keys ++ others_from KEYS 0)

-- a focus event knows only the Caps Lock toggle (8 in the set of modifiers) and the Num Lock toggle
unfoldable pub focus_key : Keyboard → ℕ → ℕ → FullKey
focus_key b vk scancode =
    get_key b.layout (pick (caps_lock_on b.key_state) 8 0) (num_lock_on b.key_state) vk scancode (key_code_of scancode)

-- SCOPE 3.12: the text, which the text with all modifiers equals, is the logical key's character at gain and none at loss
unfoldable pub focus_text : ElementState → FullKey → Option (List ℕ)
focus_text Pressed k = to_text k
focus_text Released k = None

-- SCOPE 3.16: a dead key without modifiers stays dead
unfoldable pub synthetic_event : Keyboard → ElementState → ℕ → ℕ → Event
synthetic_event b st vk scancode =
    record {
      physical_key = key_code_of scancode;
      logical_key = focus_key b vk scancode;
      text = focus_text st (focus_key b vk scancode);
      location = location_of b.layout scancode;
      state = st;
      repeat = false;
      synthetic = true;
      text_with_all_modifiers = focus_text st (focus_key b vk scancode);
      key_without_modifiers = plain_key b vk scancode;
    }

-- SCOPE 3.14: keys whose byte has bit 7, but for those without a scan code
unfoldable pub written : Keyboard → ℕ → Bool
written b vk = down b.key_state vk && not (eqb (scan_code_for b.layout vk) 0)

unfoldable pub synthetic_events : Keyboard → ElementState → List ℕ → List Event
synthetic_events b st [] = []
synthetic_events b st (vk ∷ vks) =
    pick (written b vk) (synthetic_event b st vk (scan_code_for b.layout vk) ∷ []) [] ++ synthetic_events b st vks

-- SCOPE 3.14: a gain writes presses, a loss releases
unfoldable pub focus_events : Keyboard → ElementState → List Event
focus_events b st = synthetic_events b st (focus_keys st)
