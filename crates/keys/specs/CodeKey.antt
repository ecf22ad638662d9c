-- A key code as one number, by which the lists of a layout are ordered and searched.
-- Assumes nothing.
use Rattle.std.specs.Prelude.{ℕ, ◌+◌, ◌*◌, ◌/◌, ◌%◌, ◌^◌, Bool, false, eqb, ltb}
use Rattle.area.specs.Pick.{pick}
use Rattle.keys.specs.Native.{native_kind, native_value, native_fits, native_ok, native_at}
use Rattle.keys.specs.Key.{none_held}
use Rattle.keys.specs.Number.{code_cases, code_number, code_native, code_at}
use Rattle.keys.specs.declared.key_code.KeyCode.{KeyCode}

-- the native code inside is one of its Rust type
unfoldable pub code_fits : KeyCode → Bool
code_fits c = native_fits (code_native c)

-- 32 bits of the native code's value, 8 of its kind, and the key code's place above them
unfoldable pub code_key : KeyCode → ℕ
code_key c = native_value (code_native c) + 2 ^ 32 * (native_kind (code_native c) + 256 * code_number c)

-- the three parts of the number
abbrev pub place_part : ℕ → ℕ
place_part k = k / 2 ^ 40

abbrev pub kind_part : ℕ → ℕ
kind_part k = k / 2 ^ 32 % 256

abbrev pub value_part : ℕ → ℕ
value_part k = k % 2 ^ 32

-- some key code has this number: only an unidentified one holds a native code
unfoldable pub code_key_ok : ℕ → Bool
code_key_ok k =
    pick (ltb (place_part k) code_cases)
    (pick (eqb (place_part k) 0) (native_ok (kind_part k) (value_part k)) (none_held (kind_part k) (value_part k)))
    false

-- the key code of a number
unfoldable pub code_of_key : ℕ → KeyCode
code_of_key k = code_at (place_part k) (native_at (kind_part k) (value_part k))
