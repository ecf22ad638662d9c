-- `record::write::put_code` meets its contract.
-- Assumes nothing.
use mathlib.Core.Path.{refl}
use borrow.Author.Rules.{rules}
use Rattle.record.proofs.write.Marks.{code-written}
use Rattle.record.proofs.write.put_code.Statement.{statement}
use Rattle.record.proofs.write.put_code.Tie as tie

code-key-requires : tie.Need-code_key-key-requires
code-key-requires c κs = search rules

cast-put-u32 : tie.Need-overflow_cast-key
cast-put-u32 c = search rules

put-u32-requires : tie.Need-put_u32-requires
put-u32-requires c κs = search rules

add-put-u16 : tie.Need-overflow_add-at
add-put-u16 c = search rules

cast-put-u16 : tie.Need-overflow_cast-key-2
cast-put-u16 c = search rules

put-u16-requires : tie.Need-put_u16-requires
put-u16-requires c κs = search rules

same_length : tie.Need-shape_of-s
same_length c = search rules

returns : tie.Need-returns
returns c =
    let a = c.args in
    code-written a.c a.at a.s.now c.code_key-key.ensures c.put_u32.ensures c.put_u16.ensures refl

pub put_code_spec : {M : Type 1} → statement M
put_code_spec =
    tie.close
    (tie.spec
    code-key-requires
    cast-put-u32
    put-u32-requires
    add-put-u16
    cast-put-u16
    put-u16-requires
    same_length
    returns)
