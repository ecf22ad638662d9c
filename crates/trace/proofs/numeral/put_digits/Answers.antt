use Rattle.std.proofs.Common.{◌-◌, ◌∙◌, arith}
use native.Mathlib.Nat.{div-lt_self, mod-lt}
use Rattle.trace.proofs.numeral.Digits.{length_last, length_more, write_last, write_more}
use Rattle.trace.proofs.numeral.put_digits.Goals as goal

pub overflow_sub-i : goal.overflow_sub-i
overflow_sub-i c =
    let l = c.loop-rest in
    omega (arith, length_more c.args.base l.rest (omega arith) c.loop-rest-test.true)

pub glyph_of-requires : goal.glyph_of-requires
glyph_of-requires c = omega (arith, mod-lt c.loop-rest.rest {m = c.args.base} (omega arith))

pub bounds-out-at : goal.bounds-out-at
bounds-out-at c =
    let l = c.loop-rest in
    omega (arith, length_more c.args.base l.rest (omega arith) c.loop-rest-test.true)

pub loop-rest-smaller : goal.loop-rest-smaller
loop-rest-smaller c = div-lt_self (omega arith) (omega arith)

pub loop-rest-preserved : goal.loop-rest-preserved
loop-rest-preserved c =
    let l = c.loop-rest in
    let a = c.args in
    let n = length_more a.base l.rest (omega arith) c.loop-rest-test.true in (
      omega arith,
      omega arith,
      rw c.glyph_of.ensures (write_more a.at a.base l.rest (l.i - 1) l.out (omega arith) c.loop-rest-test.true (omega arith)) ∙ l.invariant.2,
    )

pub bounds-out-at-2 : goal.bounds-out-at-2
bounds-out-at-2 c =
    let n = length_last c.args.base c.loop-rest.rest (omega arith) in
    omega arith

pub returns : goal.returns
returns c =
    let l = c.loop-rest in
    let a = c.args in
    rw c.glyph_of-2.ensures (write_last a.at a.base l.rest 0 l.out (omega arith)) ∙ l.invariant.2
