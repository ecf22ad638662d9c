-- A range of the match is a range of the definition.
-- Assumes nothing.
use Rattle.std.proofs.Common.{sym, arith}
use Rattle.text.proofs.Scalar.{scalar_low, scalar_high, scalar_none, scalar_over}
use Rattle.text.proofs.is_scalar.Goals as goal

pub returns-in-0-to-55295 : goal.returns-in-0-to-55295
returns-in-0-to-55295 c = sym (scalar_low c.args.v (omega arith))

pub returns-in-0-to-55295-2 : goal.returns-in-0-to-55295-2
returns-in-0-to-55295-2 c = sym (scalar_high c.args.v (omega arith) (omega arith))

pub returns-in_default : goal.returns-in_default
returns-in_default c = sym (scalar_none c.args.v (omega arith) (omega arith))

pub returns-in_default-2 : goal.returns-in_default-2
returns-in_default-2 c = sym (scalar_over c.args.v (omega arith))
