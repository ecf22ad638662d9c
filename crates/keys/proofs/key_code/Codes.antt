-- Key codes and their places lead to each other.
-- Assumes nothing.
use mathlib.Core.Path.{◌≡◌, refl, sym, ap, ◌∙◌}
use mathlib.Core.Bool.{Bool, true}
use Prim.Native.Nat.{ℕ, ◌-◌, ◌<◌}
use native.Mathlib.Omega.{arith}
use lib.Dec.{eqb}
use borrow.Author.Tests.{ltb-true, eqb-true}
use Rattle.area.specs.Look.{assoc}
use Rattle.area.specs.Walk.{every}
use Rattle.area.proofs.Walk.{every_at}
use Rattle.keys.specs.Native.{native_kind}
use Rattle.keys.specs.declared.NativeKeyCode.{NativeKeyCode}
use Rattle.keys.specs.declared.NativeKeyCode.TheVariants as nat
use Rattle.keys.proofs.Numbers.{kind_none}
use Rattle.keys.specs.declared.key_code.KeyCode.{KeyCode}
use Rattle.keys.specs.Number.{code_cases, code_number, code_native, codes, code_at}
use Rattle.keys.proofs.key_code.EachCode.{each-code}

pub code_back : (c : KeyCode) → code_at (code_number c) (code_native c) ≡ c
code_back c = (each-code c).0

pub code_below : (c : KeyCode) → code_number c < code_cases
code_below c = ltb-true (code_number c) code_cases (each-code c).1

pub native_first : (held : NativeKeyCode) → code_native (code_at 0 held) ≡ held
unfolding code_native code_at codes assoc
native_first held = refl

module _ (held : NativeKeyCode) where
  -- each place is that of the key code there
  placed : ℕ → Bool
  placed n = eqb (code_number (code_at n held)) n

  -- no key code from place 1 on holds a native code
  bare : ℕ → Bool
  bare n = eqb (native_kind (code_native (code_at n held))) 0

  all_placed : every placed code_cases 0 ≡ true
  unfolding every placed code_number code_at codes assoc
  all_placed = refl

  all_bare : every bare (code_cases - 1) 1 ≡ true
  unfolding every bare code_native code_at codes assoc native_kind
  all_bare = refl

  pub code_exact : (n : ℕ) → n < code_cases → code_number (code_at n held) ≡ n
  unfolding placed
  code_exact n h = eqb-true (code_number (code_at n held)) n (every_at placed code_cases 0 n all_placed (omega arith) (omega arith))

  pub native_other : (n : ℕ) → 0 < n → n < code_cases → code_native (code_at n held) ≡ nat.Unidentified
  unfolding bare
  native_other n l h = kind_none (code_native (code_at n held)) (eqb-true (native_kind (code_native (code_at n held))) 0 (every_at bare (code_cases - 1) 1 n all_bare l (omega arith)))

pub native_plain : (c : KeyCode) → 0 < code_number c → code_native c ≡ nat.Unidentified
native_plain c h = sym (ap code_native (code_back c)) ∙ native_other (code_native c) (code_number c) h (code_below c)
