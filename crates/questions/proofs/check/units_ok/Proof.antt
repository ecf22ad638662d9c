-- `crate::check::units_ok` meets its contract: each way out by the test that it ends in.
-- Assumes nothing.
use native.Mathlib.Omega.{arith}
use Rattle.questions.proofs.check.Records.{units_long, units_end}
use borrow.Author.Rules.{rules}
use Rattle.questions.proofs.check.units_ok.Statement.{statement}
use Rattle.questions.proofs.check.units_ok.Tie as tie

shared-slice-read-n : tie.Need-bounds-s-0
shared-slice-read-n c = search rules

cast-n : tie.Need-overflow_cast-n
cast-n c = omega (arith, c.shared_slice_known-2-1.given 0)

returns : tie.Need-returns-then-n-gt-UNITS_MOST
returns c = units_long _ c.if-n-gt-UNITS_MOST.true

mul-zero-part : tie.Need-overflow_mul-n
mul-zero-part c = search rules

add-zero-part : tie.Need-overflow_add-n
add-zero-part c = search rules

zero-part-requires : tie.Need-zero_part-requires
zero-part-requires c κs = search rules

returns-2 : tie.Need-returns
returns-2 c = units_end _ c.if-n-gt-UNITS_MOST.false _ c.zero_part.ensures

pub units_ok_spec : {M : Type 1} → statement M
units_ok_spec =
    tie.close
    (tie.spec
    shared-slice-read-n
    cast-n
    returns
    mul-zero-part
    add-zero-part
    zero-part-requires
    returns-2)
