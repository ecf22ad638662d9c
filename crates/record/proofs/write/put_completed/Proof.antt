-- `record::write::put_completed` meets its contract.
-- Assumes nothing.
use mathlib.Core.Path.{refl}
use borrow.Author.Rules.{rules}
use Rattle.record.proofs.write.Entries.{head_written}
use Rattle.record.proofs.write.put_completed.Statement.{statement}
use Rattle.record.proofs.write.put_completed.Tie as tie

cast-put-u16 : tie.Need-overflow_cast-token
cast-put-u16 c = search rules

put-u16-requires : tie.Need-put_u16-requires
put-u16-requires c κs = search rules

add-put-u8 : tie.Need-overflow_add-at
add-put-u8 c = search rules

put-u8-requires : tie.Need-put_u8-requires
put-u8-requires c κs = search rules

same_length : tie.Need-shape_of-s
same_length c = search rules

returns : tie.Need-returns
returns c =
    let a = c.args in
    head_written a.token.0 a.at a.s.now c.put_u16.ensures c.put_u8.ensures refl refl refl

pub put_completed_spec : {M : Type 1} → statement M
put_completed_spec = tie.close (tie.spec
    cast-put-u16
    put-u16-requires
    add-put-u8
    put-u8-requires
    same_length
    returns)
