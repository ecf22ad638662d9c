-- The sets of modifiers.
-- Assumes nothing.
use mathlib.Core.Path.{◌≡◌, refl}
use mathlib.Core.Bool.{Bool, true, false}
use Prim.Native.Nat.{ℕ, ◌≤◌, ◌<◌}
use native.Mathlib.Omega.{arith}
use Rattle.area.specs.Pick.{pick}
use Rattle.lookup.specs.Sizes.{MODIFIER_SETS}
use Rattle.lookup.specs.Modifiers.{bits_of}
use Rattle.lookup.specs.declared.keyboard_layout.WindowsModifiers.{WindowsModifiers}

-- there are sixteen sets of modifiers
pub bits_below : (m : WindowsModifiers) → bits_of m < MODIFIER_SETS
unfolding bits_of
bits_below m =
    let a = weight m.shift 1 in
    let b = weight m.control 2 in
    let c = weight m.alt 4 in let d = weight m.caps_lock 8 in omega arith
  where
    weight : (b : Bool) (n : ℕ) → pick b n 0 ≤ n
    weight true n = omega arith
    weight false n = omega arith

-- no modifier, or Caps Lock alone
pub caps_bits : (caps : Bool) → bits_of (record { shift = false; control = false; alt = false; caps_lock = caps }) ≡ pick caps 8 0
unfolding bits_of
caps_bits true = refl
caps_bits false = refl
