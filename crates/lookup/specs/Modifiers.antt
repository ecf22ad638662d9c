-- The modifiers that 256 key-state bytes show, from Microsoft's GetKeyboardState: of a key's byte the high bit says that it is down,
-- the low bit that it is toggled on.
-- Assumes nothing.
use Rattle.std.specs.Prelude.{ℕ, ◌+◌, ◌/◌, ◌%◌, Bool, false, ◌||◌, List, eqb, get_or}
use Rattle.area.specs.Pick.{pick}
use Rattle.lookup.specs.declared.keyboard_layout.WindowsModifiers.{WindowsModifiers}

unfoldable pub down : List ℕ → ℕ → Bool
down state vk = eqb (get_or state vk 0 / 128 % 2) 1

unfoldable pub toggled : List ℕ → ℕ → Bool
toggled state vk = eqb (get_or state vk 0 % 2) 1

-- a modifier is active where its key, or its left or right one, is down
unfoldable pub any_down : List ℕ → ℕ → ℕ → ℕ → Bool
any_down state key left right = down state key || (down state left || down state right)

-- VK_NUMLOCK is 90
unfoldable pub num_lock_on : List ℕ → Bool
num_lock_on state = toggled state 0x90

-- VK_CAPITAL is 14
unfoldable pub caps_lock_on : List ℕ → Bool
caps_lock_on state = toggled state 0x14

-- VK_SHIFT 10, VK_CONTROL 11, VK_MENU 12, and their left and right ones A0 to A5
unfoldable pub active_modifiers : List ℕ → WindowsModifiers
active_modifiers state =
    record {
      shift = any_down state 0x10 0xA0 0xA1;
      control = any_down state 0x11 0xA2 0xA3;
      alt = any_down state 0x12 0xA4 0xA5;
      caps_lock = caps_lock_on state;
    }

-- SCOPE 3.11: Control is removed unless Alt is on
unfoldable pub remove_only_ctrl : WindowsModifiers → WindowsModifiers
remove_only_ctrl m =
    record { shift = m.shift; control = pick m.alt m.control false; alt = m.alt; caps_lock = m.caps_lock }

-- the set by its bits: Shift 1, Control 2, Alt 4, Caps Lock 8
unfoldable pub bits_of : WindowsModifiers → ℕ
bits_of m = pick m.shift 1 0 + (pick m.control 2 0 + (pick m.alt 4 0 + pick m.caps_lock 8 0))
