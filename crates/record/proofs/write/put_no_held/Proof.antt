-- `record::write::put_no_held` meets its contract.
-- Assumes nothing.
use mathlib.Core.Path.{refl}
use borrow.Author.Rules.{rules}
use Rattle.record.proofs.write.Zeros.{none_written}
use Rattle.record.proofs.write.put_no_held.Statement.{statement}
use Rattle.record.proofs.write.put_no_held.Tie as tie

put-zeros-requires : tie.Need-put_zeros-requires
put-zeros-requires c κs = search rules

same_length : tie.Need-shape_of-s
same_length c = search rules

returns : tie.Need-returns
returns c =
    let a = c.args in
    none_written a.at a.s.now c.put_zeros.ensures refl refl

pub put_no_held_spec : {M : Type 1} → statement M
put_no_held_spec = tie.close (tie.spec
    put-zeros-requires
    same_length
    returns)
