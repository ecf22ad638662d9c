-- `record::layout::put_info` meets its contract.
-- Assumes nothing.
use mathlib.Core.Path.{refl}
use borrow.Author.Rules.{rules}
use Rattle.record.proofs.layout.Records.{info-written}
use Rattle.record.proofs.layout.put_info.Statement.{statement}
use Rattle.record.proofs.layout.put_info.Tie as tie

put-u16-requires : tie.Need-put_u16-requires
put-u16-requires c κs = search rules

add-put-flag : tie.Need-overflow_add-at
add-put-flag c = search rules

put-flag-requires : tie.Need-put_flag-requires
put-flag-requires c κs = search rules

add-put-u8 : tie.Need-overflow_add-at-2
add-put-u8 c = search rules

location-number-requires : tie.Need-from-requires
location-number-requires c κs = search rules

put-u8-requires : tie.Need-put_u8-requires
put-u8-requires c κs = search rules

add-put-key : tie.Need-overflow_add-at-3
add-put-key c = search rules

put-key-requires : tie.Need-put_key-requires
put-key-requires c κs = search rules

add-put-undead-key : tie.Need-overflow_add-at-4
add-put-undead-key c = search rules

put-undead-key-requires : tie.Need-put_undead_key-requires
put-undead-key-requires c κs = search rules

same_length : tie.Need-shape_of-s
same_length c = search rules

returns : tie.Need-returns
returns c =
    let a = c.args in
    info-written a.block.now a.n a.at a.s.now c.requires.1 c.put_u16.ensures c.put_flag.ensures
    c.from.ensures c.put_u8.ensures c.put_key.ensures c.put_undead_key.ensures
    refl refl refl refl refl

pub put_info_spec : {M : Type 1} → statement M
put_info_spec =
    tie.close
    (tie.spec
    put-u16-requires
    add-put-flag
    put-flag-requires
    add-put-u8
    location-number-requires
    put-u8-requires
    add-put-key
    put-key-requires
    add-put-undead-key
    put-undead-key-requires
    same_length
    returns)
