-- A number of 64 bits has at most twenty digits.
use Rattle.std.proofs.Common.{arith, rules}
use Rattle.trace.proofs.print.Texts.{numeral_20, wrote-append, wrote_splice}
use Rattle.trace.proofs.print.Out.put_field.Goals as goal

pub put_digits-requires : goal.put_digits-requires
put_digits-requires c =
    let n = numeral_20 c.args.base c.args.v (omega arith) (search rules) in
    let w = c.put_byte.ensures.wrote in
    (omega arith, omega arith, c.width_of-k.ensures, omega (arith, w.place, w.size, c.width_of-k.ensures))

pub overflow_add-self : goal.overflow_add-self
overflow_add-self c =
    let n = numeral_20 c.args.base c.args.v (omega arith) (search rules) in
    let w = c.put_byte.ensures.wrote in
    omega (arith, w.place, c.width_of-k.ensures)

pub returns-clause-wrote : goal.returns-clause-wrote
returns-clause-wrote c = wrote-append _ _ _ _ _ c.put_byte.ensures.wrote (wrote_splice _ _ _ _ c.put_digits.ensures c.width_of-k.ensures)

pub returns-clause-upper_bound : goal.returns-clause-upper_bound
returns-clause-upper_bound c =
    let n = numeral_20 c.args.base c.args.v (omega arith) (search rules) in
    let w = c.put_byte.ensures.wrote in
    omega (arith, w.place, c.width_of-k.ensures)
