-- A scalar value takes at most four bytes.
use Rattle.std.proofs.Common.{arith}
use Rattle.std.proofs.lemmas.Grind.{common_steps}
use Rattle.text.proofs.Text.{utf8-length}
use Rattle.graphemes.proofs.put_scalar.Goals as goal

pub put_scalar-requires : goal.put_scalar-requires
put_scalar-requires c = (grind (arith, common_steps), omega (arith, utf8-length c.args.scalar))
