-- `record::layout::put_part` meets its contract.
-- Assumes nothing.
use mathlib.Core.Path.{refl}
use native.Mathlib.Omega.{arith}
use borrow.Author.Rules.{rules}
use Rattle.record.proofs.layout.Texts.{part_written}
use Rattle.record.proofs.layout.put_part.Statement.{statement}
use Rattle.record.proofs.layout.put_part.Tie as tie

cast-put-u8 : tie.Need-overflow_cast-t
cast-put-u8 c = search rules

put-u8-requires : tie.Need-put_u8-requires
put-u8-requires c κs = search rules

add-put-padded : tie.Need-overflow_add-at
add-put-padded c = search rules

put-padded-requires : tie.Need-put_padded-requires
put-padded-requires c κs = search rules

same_length : tie.Need-shape_of-s
same_length c = search rules

returns : tie.Need-returns
returns c =
    let a = c.args in
    part_written a.most a.t.now a.at a.s.now (omega arith) refl c.put_u8.ensures c.put_padded.ensures refl

pub put_part_spec : {M : Type 1} → statement M
put_part_spec =
    tie.close
    (tie.spec
    cast-put-u8
    put-u8-requires
    add-put-padded
    put-padded-requires
    same_length
    returns)
