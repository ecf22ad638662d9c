-- `record::write::put_press` meets its contract.
-- Assumes nothing.
use mathlib.Core.Path.{refl}
use borrow.Author.Rules.{rules}
use Rattle.record.proofs.write.Entries.{press-written}
use Rattle.record.proofs.write.put_press.Statement.{statement}
use Rattle.record.proofs.write.put_press.Tie as tie

cast-put-u16 : tie.Need-overflow_cast-token
cast-put-u16 c = search rules

put-u16-requires : tie.Need-put_u16-requires
put-u16-requires c κs = search rules

add-put-u8 : tie.Need-overflow_add-at
add-put-u8 c = search rules

put-u8-requires : tie.Need-put_u8-requires
put-u8-requires c κs = search rules

add-put-u8-2 : tie.Need-overflow_add-at-2
add-put-u8-2 c = search rules

put-u8-requires-2 : tie.Need-put_u8-requires-2
put-u8-requires-2 c κs = search rules

add-put-pressed : tie.Need-overflow_add-at-3
add-put-pressed c = search rules

put-pressed-requires : tie.Need-put_pressed-requires
put-pressed-requires c κs = search rules

add-put-zeros : tie.Need-overflow_add-at-4
add-put-zeros c = search rules

put-zeros-requires : tie.Need-put_zeros-requires
put-zeros-requires c κs = search rules

same_length : tie.Need-shape_of-s
same_length c = search rules

returns : tie.Need-returns
returns c =
    let a = c.args in
    press-written a.token.0 a.vkey a.l a.at a.s.now c.put_u16.ensures c.put_u8.ensures
    c.put_u8-2.ensures c.put_pressed.ensures c.put_zeros.ensures refl refl refl refl refl refl refl refl refl refl

pub put_press_spec : {M : Type 1} → statement M
put_press_spec =
    tie.close
    (tie.spec
    cast-put-u16
    put-u16-requires
    add-put-u8
    put-u8-requires
    add-put-u8-2
    put-u8-requires-2
    add-put-pressed
    put-pressed-requires
    add-put-zeros
    put-zeros-requires
    same_length
    returns)
