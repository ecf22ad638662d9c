-- What a layout answers, over its maps: keyboard_layout.rs, in the order of SCOPE 5.1.
-- Assumes nothing.
use Rattle.std.specs.Prelude.{ℕ, ◌+◌, ◌-◌, Bool, List, eqb, ltb, take, drop, get_or, Option, Some, None}
use Rattle.area.specs.Pick.{pick}
use Rattle.area.specs.Bytes.{num}
use Rattle.keys.specs.Key.{key_at}
use Rattle.keys.specs.Text.{FullKey, named, unidentified, full}
use Rattle.keys.specs.declared.Key.{Key}
use Rattle.keys.specs.declared.NativeKeyCode.TheVariants.{Windows}
use Rattle.keys.specs.declared.key_code.KeyCode.{KeyCode}
use Rattle.lookup.specs.Sizes.{ENTRY_HEAD}
use Rattle.lookup.specs.Maps.{Maps, find, find_code, list_for}
use Rattle.lookup.specs.LParam.{ex_scancode}
use Rattle.lookup.specs.declared.keyboard.KeyLParam.{KeyLParam}
use Rattle.lookup.specs.declared.keyboard_layout.LayoutKey.{LayoutKey}

-- the value, or else d
abbrev pub or_else : {A : Type 0} → Option A → A → A
or_else None d = d
or_else (Some a) d = a

-- SCOPE 5.1: the non-character key of the virtual key (not for VK_MENU, 12)
unfoldable pub non_char_key : Maps → ℕ → ℕ
non_char_key m vkey = pick (eqb vkey 0x12) 0 (get_or m.non_char_keys vkey 0)

abbrev pub as_named : ℕ → Option FullKey
as_named n = pick (eqb n 0) None (Some (named n))

-- SCOPE 5.1: asked in order are the non-character key of the virtual key, the Num Lock on or off list,
-- the list for these modifiers and this key code; else the key is unidentified.
-- A key that a list holds ends the search, an unidentified one too.
unfoldable pub get_key : Maps → ℕ → Bool → ℕ → ℕ → KeyCode → FullKey
get_key m mods num_lock vkey scancode code =
    or_else (as_named (non_char_key m vkey))
    (or_else (find vkey (pick num_lock m.num_lock_on m.num_lock_off))
    (or_else (find_code code (list_for mods m.keys)) (unidentified (Windows scancode))))

-- SCOPE 5.1: the block's scan code for a virtual key, none (0) above FF
unfoldable pub scan_code_for : Maps → ℕ → ℕ
scan_code_for m vkey = get_or m.scan_codes vkey 0

-- SCOPE 3.1: for the scan code 00 the block's code of the virtual key, whatever bit 24 says
unfoldable pub message_scancode : Maps → ℕ → KeyLParam → ℕ
message_scancode m vkey l = pick (eqb l.scancode 0) (scan_code_for m vkey) (ex_scancode l.scancode l.extended)

-- SCOPE 5.2: virtual keys for the scan codes of pages 00, E0 and E1 (0 elsewhere)
unfoldable pub vkey_for : Maps → ℕ → ℕ
vkey_for m scancode =
    pick (ltb scancode 0x100) (get_or m.virtual_keys scancode 0)
    (pick (ltb scancode 0xE000) 0
    (pick (ltb scancode 0xE200) (get_or m.virtual_keys (scancode - 0xE000 + 0x100) 0) 0))

-- ---- what the code hands out: a key, and where its text stands in the block

abbrev pub part_of : List ℕ → LayoutKey → List ℕ
part_of block k = take k.len (drop k.start block)

-- the key that is meant, its text the part of the block
abbrev pub key_in : List ℕ → LayoutKey → FullKey
key_in block k = full k.key (part_of block k)

-- a key without a text
unfoldable pub bare : Key → LayoutKey
bare k = record { key = k; start = 0; len = 0 }

-- the key of the entry at a place
unfoldable pub found_at : List ℕ → ℕ → LayoutKey
found_at block at =
    record {
      key = key_at (num 2 (at + 8) block) (get_or block (at + 10) 0) (num 4 (at + 12) block);
      start = at + ENTRY_HEAD;
      len = get_or block (at + 11) 0;
    }
