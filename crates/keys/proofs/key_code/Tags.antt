-- A key code's place is the tag by which the machine tells it. Apart from the other laws: what these load makes the prover's reports of an error slow.
-- Assumes nothing.
use mathlib.Core.Path.{◌≡◌, refl, sym, ap, ◌∙◌}
use mathlib.Core.Bool.{Bool, true}
use Prim.Native.Nat.{ℕ, ◌<◌}
use native.Mathlib.Omega.{arith}
use lib.Dec.{eqb}
use borrow.Author.Tests.{eqb-true}
use denote.Enum.Declared.{tag_of, declared}
use Rattle.area.specs.Look.{assoc}
use Rattle.area.specs.Walk.{every}
use Rattle.area.proofs.Walk.{every_at}
use Rattle.keys.specs.declared.NativeKeyCode.{NativeKeyCode}
use Rattle.keys.specs.declared.key_code.KeyCode.{KeyCode}
use Rattle.keys.specs.Number.{code_cases, code_number, code_native, codes, code_at}
use Rattle.keys.specs.contracts.key_code.KeyCode as K
use Rattle.keys.proofs.key_code.Codes.{code_back, code_below}

abbrev tag : KeyCode → ℕ
tag c = tag_of (declared K.enum) c

module _ (held : NativeKeyCode) where
  -- the tag of the key code at a place is the place
  placed : ℕ → Bool
  placed n = eqb (tag (code_at n held)) n

  all_placed : every placed code_cases 0 ≡ true
  unfolding every placed code_at codes assoc
  all_placed = refl

  tag_at : (n : ℕ) → n < code_cases → tag (code_at n held) ≡ n
  unfolding placed
  tag_at n h = eqb-true (tag (code_at n held)) n (every_at placed code_cases 0 n all_placed (omega arith) (omega arith))

pub number_is_tag : (c : KeyCode) → code_number c ≡ tag_of (declared K.enum) c
number_is_tag c = sym (tag_at (code_native c) (code_number c) (code_below c)) ∙ ap tag (code_back c)

-- what a match on a key code knows is its tag
pub tagged : (x : KeyCode) {k : ℕ} → tag_of (declared K.enum) x ≡ k → k ≡ code_number x
tagged x h = sym h ∙ sym (number_is_tag x)
