-- `record::write::put_pressed` meets its contract.
-- Assumes nothing.
use mathlib.Core.Path.{refl}
use borrow.Author.Rules.{rules}
use Rattle.record.proofs.write.Entries.{pressed-written}
use Rattle.record.proofs.write.put_pressed.Statement.{statement}
use Rattle.record.proofs.write.put_pressed.Tie as tie

put-u16-requires : tie.Need-put_u16-requires
put-u16-requires c κs = search rules

add-put-u8 : tie.Need-overflow_add-at
add-put-u8 c = search rules

put-u8-requires : tie.Need-put_u8-requires
put-u8-requires c κs = search rules

add-put-flag : tie.Need-overflow_add-at-2
add-put-flag c = search rules

put-flag-requires : tie.Need-put_flag-requires
put-flag-requires c κs = search rules

add-put-flag-2 : tie.Need-overflow_add-at-3
add-put-flag-2 c = search rules

put-flag-requires-2 : tie.Need-put_flag-requires-2
put-flag-requires-2 c κs = search rules

same_length : tie.Need-shape_of-s
same_length c = search rules

returns : tie.Need-returns
returns c =
    let a = c.args in
    pressed-written a.vkey a.l a.at a.s.now c.put_u16.ensures c.put_u8.ensures c.put_flag.ensures
    c.put_flag-2.ensures refl refl refl refl refl

pub put_pressed_spec : {M : Type 1} → statement M
put_pressed_spec =
    tie.close
    (tie.spec
    put-u16-requires
    add-put-u8
    put-u8-requires
    add-put-flag
    put-flag-requires
    add-put-flag-2
    put-flag-requires-2
    same_length
    returns)
