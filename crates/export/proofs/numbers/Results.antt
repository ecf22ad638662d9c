-- The number of a message result that is a value, by what the code found its bits to be.
-- Assumes nothing.
use mathlib.Core.Path.{◌≡◌}
use lib.IntN.{ℤ}
use mir.Syntax.{w64}
use mir.Val.{of_z}
use borrow.Author.Tests.{eq-eqb, ne_eqb}
use Rattle.session.specs.declared.ProcResult.{ProcResult}
use Rattle.session.specs.declared.ProcResult.TheVariants.{Value}
use Rattle.export.specs.Numbers.{change_of}

pub set_zero : {r : ProcResult} {v : ℤ} → r ≡ Value v → of_z w64 v ≡ 0 → 2 ≡ change_of r
unfolding change_of
set_zero {r} {v} a b = rw (a, eq-eqb (of_z w64 v) 0 b)

pub set_none : {r : ProcResult} {v : ℤ} → r ≡ Value v → (of_z w64 v ≡ 0 → ⊥) → 0 ≡ change_of r
unfolding change_of
set_none {r} {v} a b = rw (a, ne_eqb (of_z w64 v) 0 b)
