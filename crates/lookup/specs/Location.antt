-- Where on the keyboard a key is: get_location of keyboard.rs.
-- Assumes nothing.
use Rattle.std.specs.Prelude.{ℕ, Bool, List, [], ◌∷◌, leb}
use Rattle.area.specs.Pick.{pick}
use Rattle.area.specs.Look.{assoc}
use Rattle.keys.specs.declared.KeyLocation.{KeyLocation}
use Rattle.keys.specs.declared.KeyLocation.TheVariants as at
use Rattle.lookup.specs.Maps.{Maps}
use Rattle.lookup.specs.Layout.{vkey_for}
use Rattle.lookup.specs.declared.keyboard.VkeyPlace.{VkeyPlace}
use Rattle.lookup.specs.declared.keyboard.VkeyPlace.TheVariants as vk

-- the virtual keys that have a place of their own, in get_location's order; the codes are those of Microsoft's 'Virtual-Key Codes'
unfoldable pub places : List (ℕ × VkeyPlace)
places =
    -- VK_LSHIFT, VK_LCONTROL, VK_LMENU, VK_LWIN
    (0xA0, vk.Left) ∷
    (0xA2, vk.Left) ∷
    (0xA4, vk.Left) ∷
    (0x5B, vk.Left) ∷
    -- VK_RSHIFT, VK_RCONTROL, VK_RMENU, VK_RWIN
    (0xA1, vk.Right) ∷
    (0xA3, vk.Right) ∷
    (0xA5, vk.Right) ∷
    (0x5C, vk.Right) ∷
    -- VK_RETURN
    (0x0D, vk.Enter) ∷
    -- VK_INSERT, VK_DELETE, VK_END, VK_DOWN, VK_NEXT, VK_LEFT, VK_CLEAR, VK_RIGHT, VK_HOME, VK_UP, VK_PRIOR
    (0x2D, vk.Editing) ∷
    (0x2E, vk.Editing) ∷
    (0x23, vk.Editing) ∷
    (0x28, vk.Editing) ∷
    (0x22, vk.Editing) ∷
    (0x25, vk.Editing) ∷
    (0x0C, vk.Editing) ∷
    (0x27, vk.Editing) ∷
    (0x24, vk.Editing) ∷
    (0x26, vk.Editing) ∷
    (0x21, vk.Editing) ∷
    -- VK_NUMPAD0, VK_NUMPAD1, VK_NUMPAD2, VK_NUMPAD3, VK_NUMPAD4, VK_NUMPAD5, VK_NUMPAD6, VK_NUMPAD7, VK_NUMPAD8, VK_NUMPAD9, VK_DECIMAL, VK_DIVIDE, VK_MULTIPLY, VK_SUBTRACT, VK_ADD, VK_ABNT_C2
    (0x60, vk.Numpad) ∷
    (0x61, vk.Numpad) ∷
    (0x62, vk.Numpad) ∷
    (0x63, vk.Numpad) ∷
    (0x64, vk.Numpad) ∷
    (0x65, vk.Numpad) ∷
    (0x66, vk.Numpad) ∷
    (0x67, vk.Numpad) ∷
    (0x68, vk.Numpad) ∷
    (0x69, vk.Numpad) ∷
    (0x6E, vk.Numpad) ∷
    (0x6F, vk.Numpad) ∷
    (0x6A, vk.Numpad) ∷
    (0x6D, vk.Numpad) ∷
    (0x6B, vk.Numpad) ∷
    (0xC2, vk.Numpad) ∷
    []

unfoldable pub vkey_place : ℕ → VkeyPlace
vkey_place vkey = assoc places vk.Other vkey

-- the Enter of the numpad is the extended one, the editing keys of the numpad are not
unfoldable pub location_in : VkeyPlace → Bool → KeyLocation
location_in vk.Left extended = at.Left
location_in vk.Right extended = at.Right
location_in vk.Enter extended = pick extended at.Numpad at.Standard
location_in vk.Editing extended = pick extended at.Standard at.Numpad
location_in vk.Numpad extended = at.Numpad
location_in vk.Other extended = at.Standard

-- the pages E0 and E1 count as extended, and so does all above E000
unfoldable pub extended_code : ℕ → Bool
extended_code scancode = leb 0xE000 scancode

unfoldable pub location_of : Maps → ℕ → KeyLocation
location_of m scancode = location_in (vkey_place (vkey_for m scancode)) (extended_code scancode)
