-- The values of SCOPE 8.1, as tables, and the test that a row is right.
-- Assumes nothing.
use Rattle.std.specs.Prelude.{ℕ, Bool, true, false, not, ◌&&◌, List, [], ◌∷◌, eqb, set, replicate, Option, Some, None}
use Rattle.text.specs.Unicode.{text_of}
use Rattle.text.specs.Message.{char_units}
use Rattle.keys.specs.Location.{location_number}
use Rattle.keys.specs.Number.{code_number}
use Rattle.lookup.specs.Maps.{Maps}
use Rattle.lookup.specs.Codes.{key_code_of}
use Rattle.lookup.specs.LParam.{ex_scancode_of, key_lparam}
use Rattle.lookup.specs.Modifiers.{remove_only_ctrl}
use Rattle.lookup.specs.Location.{location_of}
use Rattle.lookup.specs.declared.keyboard_layout.WindowsModifiers.{WindowsModifiers}

-- ---- equality of what the rows hold

abbrev pub same : Bool → Bool → Bool
same true b = b
same false b = not b

abbrev pub same_list : List ℕ → List ℕ → Bool
same_list [] [] = true
same_list [] (y ∷ ys) = false
same_list (x ∷ xs) [] = false
same_list (x ∷ xs) (y ∷ ys) = eqb x y && same_list xs ys

abbrev pub same_text : Option (List ℕ) → Option (List ℕ) → Bool
same_text None None = true
same_text None (Some y) = false
same_text (Some x) None = false
same_text (Some x) (Some y) = same_list x y

abbrev pub each : {A : Type 0} → (A → Bool) → List A → Bool
each p [] = true
each p (a ∷ l) = p a && each p l

-- ---- lParam: the code and whether it repeats
abbrev pub lparams : List (ℕ × ℕ × Bool)
lparams =
    (0x1E0001, 0x1E, false) ∷ (0x401E0001, 0x1E, true) ∷ (0xC01E0001, 0x1E, false) ∷ (0x1380001, 0xE038, false) ∷ []

abbrev pub lparam_right : ℕ × ℕ × Bool → Bool
lparam_right r = eqb (ex_scancode_of r.0) r.1 && same (key_lparam r.0).is_repeat r.2

-- ---- scan codes: the key code's place in KeyCode. E038 AltRight, E11D unidentified, 54 and E037 PrintScreen
abbrev pub codes : List (ℕ × ℕ)
codes = (0xE038, 53) ∷ (0xE11D, 0) ∷ (0x54, 119) ∷ (0xE037, 119) ∷ []

abbrev pub code_right : ℕ × ℕ → Bool
code_right r = eqb (code_number (key_code_of r.0)) r.1

-- ---- UTF-16 units: their text
abbrev pub texts : List (List ℕ × Option (List ℕ))
texts =
    (0xD83D ∷ 0xDE00 ∷ [], Some (0xF0 ∷ 0x9F ∷ 0x98 ∷ 0x80 ∷ [])) ∷ (0xD83D ∷ [], None) ∷ []

abbrev pub text_right : List ℕ × Option (List ℕ) → Bool
text_right r = same_text (text_of r.0) r.1

-- ---- character codes: the units that they add
abbrev pub characters : List (ℕ × List ℕ)
characters = (0x110000, 0 ∷ 0 ∷ []) ∷ []

abbrev pub character_right : ℕ × List ℕ → Bool
character_right r = same_list (char_units r.0) r.1

-- ---- modifiers: whether Alt is on, and whether Control stays
abbrev pub controls : List (Bool × Bool)
controls = (false, false) ∷ (true, true) ∷ []

abbrev pub with_control : Bool → WindowsModifiers
with_control alt = record { shift = false; control = true; alt = alt; caps_lock = false }

abbrev pub control_right : Bool × Bool → Bool
control_right r = same (remove_only_ctrl (with_control r.0)).control r.1

-- ---- locations: the virtual key, the scan code that has it, its cell among the virtual keys, the location's number
abbrev pub locations : List (ℕ × ℕ × ℕ × ℕ)
locations =
    (0x0D, 0x1C, 0x1C, 0) ∷ (0x0D, 0xE01C, 0x11C, 3) ∷ (0x2E, 0x53, 0x53, 3) ∷ (0x2E, 0xE053, 0x153, 0) ∷ []

-- maps in which one scan code has a virtual key
abbrev pub with_vkey : ℕ → ℕ → Maps
with_vkey cell vkey =
    record {
      has_alt_graph = false;
      non_char_keys = replicate {A = ℕ} 256 0;
      scan_codes = replicate {A = ℕ} 256 0;
      virtual_keys = set (replicate {A = ℕ} 768 0) cell vkey;
      num_lock_on = [];
      num_lock_off = [];
      keys = [];
    }

abbrev pub location_right : ℕ × ℕ × ℕ × ℕ → Bool
location_right r = eqb (location_number (location_of (with_vkey r.2 r.0) r.1)) r.3

-- all of them
abbrev pub right : Bool
right =
    each lparam_right lparams
    && (each code_right codes
    && (each text_right texts
    && (each character_right characters && (each control_right controls && each location_right locations))))
