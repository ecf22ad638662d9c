-- `record::layout::put_with` meets its contract.
-- Assumes nothing.
use mathlib.Core.Path.{refl}
use borrow.Author.Rules.{rules}
use Rattle.record.proofs.layout.Keys.{key-put}
use Rattle.record.proofs.layout.put_with.Statement.{statement}
use Rattle.record.proofs.layout.put_with.Tie as tie

key-fields-requires : tie.Need-from-f-requires
key-fields-requires c κs = search rules

put-u16-requires : tie.Need-put_u16-requires
put-u16-requires c κs = search rules

add-put-u8 : tie.Need-overflow_add-at
add-put-u8 c = search rules

put-u8-requires : tie.Need-put_u8-requires
put-u8-requires c κs = search rules

add-put-u32 : tie.Need-overflow_add-at-2
add-put-u32 c = search rules

put-u32-requires : tie.Need-put_u32-requires
put-u32-requires c κs = search rules

add-put-part : tie.Need-overflow_add-at-3
add-put-part c = search rules

put-part-requires : tie.Need-put_part-requires
put-part-requires c κs = search rules

same_length : tie.Need-shape_of-s
same_length c = search rules

returns : tie.Need-returns
returns c =
    let a = c.args in
    let f = c.from-f.ensures in
    key-put a.most a.key a.t.now a.at a.s.now c.requires.3 f.0 f.1 f.2
    c.put_u16.ensures c.put_u8.ensures c.put_u32.ensures c.put_part.ensures refl refl refl

pub put_with_spec : {M : Type 1} → statement M
put_with_spec =
    tie.close
    (tie.spec
    key-fields-requires
    put-u16-requires
    add-put-u8
    put-u8-requires
    add-put-u32
    put-u32-requires
    add-put-part
    put-part-requires
    same_length
    returns)
