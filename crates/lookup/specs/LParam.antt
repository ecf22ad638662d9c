-- The lParam and wParam of a keystroke message: scan code and extended bit from Microsoft's 'About Keyboard Input', 'Keystroke Message Flags',
-- and WM_KEYDOWN; the repeat from tao (SCOPE 3.1).
-- Assumes nothing.
use Rattle.std.specs.Prelude.{ℕ, ◌+◌, ◌/◌, ◌%◌, ◌^◌, Bool, not, eqb}
use Rattle.area.specs.Pick.{pick}
use Rattle.lookup.specs.declared.keyboard.KeyLParam.{KeyLParam}

-- bit n of a number
abbrev pub bit : ℕ → ℕ → ℕ
bit n v = v / 2 ^ n % 2

-- SCOPE 3.1: bits 16 to 23, the scan code
abbrev pub scan_bits : ℕ → ℕ
scan_bits lparam = lparam / 2 ^ 16 % 2 ^ 8

-- SCOPE 3.1: bit 24, whether the key is an extended one
abbrev pub extended_bit : ℕ → Bool
extended_bit lparam = eqb (bit 24 lparam) 1

-- SCOPE 3.1: a repeat is where bits 30 and 31 differ. This is tao's; on Microsoft's page the previous key state is bit 30 alone.
abbrev pub repeat_bits : ℕ → Bool
repeat_bits lparam = not (eqb (bit 30 lparam) (bit 31 lparam))

unfoldable pub key_lparam : ℕ → KeyLParam
key_lparam lparam =
    record { scancode = scan_bits lparam; extended = extended_bit lparam; is_repeat = repeat_bits lparam }

-- SCOPE 3.1: an extended key's scan code has E000 added
unfoldable pub ex_scancode : ℕ → Bool → ℕ
ex_scancode scancode extended = scancode + pick extended 0xE000 0

-- SCOPE 3.8: of a peeked lParam, with no regard to the scan code 00
unfoldable pub ex_scancode_of : ℕ → ℕ
ex_scancode_of lparam = ex_scancode (scan_bits lparam) (extended_bit lparam)

-- SCOPE 3.2: the virtual key is wParam's low 16 bits
unfoldable pub virtual_key : ℕ → ℕ
virtual_key wparam = wparam % 2 ^ 16
