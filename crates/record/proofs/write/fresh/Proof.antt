-- `record::write::fresh` meets its contract: a way out for each answer.
-- Assumes nothing.
use mathlib.Core.Path.{refl}
use native.Mathlib.Omega.{arith}
use borrow.Author.Rules.{rules}
use Rattle.record.proofs.write.Zeros.{other_size, right-size}
use Rattle.record.proofs.write.fresh.Statement.{statement}
use Rattle.record.proofs.write.fresh.Tie as tie

returns : tie.Need-returns-then-session-ne-AREA_SIZE
returns c = other_size c.args.session.now (λ e. omega arith)

fill-zero-requires : tie.Need-fill_zero-requires
fill-zero-requires c κs = search rules

same_length : tie.Need-shape_of-session
same_length c = search rules

returns-2 : tie.Need-returns
returns-2 c =
    right-size c.args.session.now (omega arith) c.fill_zero.ensures refl

pub fresh_spec : {M : Type 1} → statement M
fresh_spec = tie.close (tie.spec
    returns
    fill-zero-requires
    same_length
    returns-2)
