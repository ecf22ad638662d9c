use Rattle.std.proofs.Common.{◌<◌, ◌/◌, arith}
use native.Mathlib.Nat.{div-lt_self}
use Rattle.trace.proofs.numeral.Digits.{length_last, length_more}
use Rattle.trace.proofs.numeral.width_of.Goals as goal

pub loop-rest-smaller : goal.loop-rest-smaller
loop-rest-smaller c = div-lt_self (omega arith) (omega arith)

pub loop-rest-preserved : goal.loop-rest-preserved
loop-rest-preserved c =
    let l = c.loop-rest in
    let b = c.args.base in
    let d : l.rest / b < l.rest = div-lt_self (omega arith) (omega arith) in
    (omega arith, omega arith, omega (arith, length_more b l.rest (omega arith) (omega arith)))

pub returns : goal.returns
returns c = omega (arith, length_last c.args.base c.loop-rest.rest (omega arith))
