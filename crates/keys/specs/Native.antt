-- A native key code as two numbers, which platform's it is and its value.
-- Assumes nothing.
use Rattle.std.specs.Prelude.{ℕ, ◌%◌, ◌^◌, Bool, true, false, [], ◌∷◌, eqb, ltb}
use Rattle.std.specs.Int.Signed.{mag}
use Rattle.std.specs.Int.{w32}
use Rattle.std.proofs.Common.{of_z, to_z}
use Rattle.area.specs.Pick.{pick}
use Rattle.area.specs.Look.{assoc}
use Rattle.keys.specs.declared.NativeKeyCode.{NativeKeyCode}
use Rattle.keys.specs.declared.NativeKeyCode.TheVariants.{Unidentified, Windows, MacOS, Gtk, Android}

-- the place of the case in tao's NativeKeyCode
unfoldable pub native_kind : NativeKeyCode → ℕ
native_kind Unidentified = 0
native_kind (Windows n) = 1
native_kind (MacOS n) = 2
native_kind (Gtk n) = 3
native_kind (Android z) = 4

-- the code itself, Android's signed one as its 32 bits in two's complement; 0 where there is none
unfoldable pub native_value : NativeKeyCode → ℕ
native_value Unidentified = 0
native_value (Windows n) = n
native_value (MacOS n) = n
native_value (Gtk n) = n
native_value (Android z) = of_z w32 z

-- the code is one of its Rust type, u16 or i32
unfoldable pub native_fits : NativeKeyCode → Bool
native_fits Unidentified = true
native_fits (Windows n) = ltb n (2 ^ 16)
native_fits (MacOS n) = ltb n (2 ^ 16)
native_fits (Gtk n) = ltb n (2 ^ 16)
native_fits (Android z) = ltb (mag z) (2 ^ 31)

-- some native code has this kind and value: kind 0 has no code, kinds 1 to 3 have a u16, and kind 4 the bits of an i32
unfoldable pub native_ok : ℕ → ℕ → Bool
native_ok kind v =
    pick (eqb kind 0) (eqb v 0)
    (pick (ltb kind 4) (ltb v (2 ^ 16)) (pick (ltb v (2 ^ 32)) (eqb kind 4) false))

-- the native code of a kind and a value; of a kind that there is not, Unidentified
unfoldable pub native_at : ℕ → ℕ → NativeKeyCode
native_at kind v =
    assoc
    ((1, Windows (v % 65536)) ∷ (2, MacOS (v % 65536)) ∷ (3, Gtk (v % 65536)) ∷ (4, Android (to_z w32 v)) ∷ [])
    Unidentified
    kind
