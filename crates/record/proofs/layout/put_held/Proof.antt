-- `record::layout::put_held` meets its contract.
-- Assumes nothing.
use mathlib.Core.Path.{refl}
use mathlib.Core.List.{[]}
use borrow.Author.Rules.{rules}
use Rattle.session.specs.InBlock.{info_in}
use Rattle.record.proofs.layout.Records.{info-length, held-written}
use Rattle.record.proofs.layout.put_held.Statement.{statement}
use Rattle.record.proofs.layout.put_held.Tie as tie

put-u8-requires : tie.Need-put_u8-requires
put-u8-requires c κs = search rules

add-put-info : tie.Need-overflow_add-at
add-put-info c = search rules

put-info-requires : tie.Need-put_info-requires
put-info-requires c κs = search rules

add-put-u16 : tie.Need-overflow_add-at-2
add-put-u16 c = search rules

put-u16-requires : tie.Need-put_u16-requires
put-u16-requires c κs = search rules

add-put-flag : tie.Need-overflow_add-at-3
add-put-flag c = search rules

put-flag-requires : tie.Need-put_flag-requires
put-flag-requires c κs = search rules

add-put-zeros : tie.Need-overflow_add-at-4
add-put-zeros c = search rules

put-zeros-requires : tie.Need-put_zeros-requires
put-zeros-requires c κs = search rules

same_length : tie.Need-shape_of-s
same_length c = search rules

returns : tie.Need-returns
returns c =
    let a = c.args in
    held-written (record { info = info_in a.block.now a.n; vkey = a.vkey; mark = a.mark; units = [] }) a.at a.s.now
    (info-length a.block.now a.n c.requires.1) refl c.put_u8.ensures c.put_info.ensures c.put_u16.ensures
    c.put_flag.ensures c.put_zeros.ensures refl refl refl refl refl refl

pub put_held_spec : {M : Type 1} → statement M
put_held_spec =
    tie.close
    (tie.spec
    put-u8-requires
    add-put-info
    put-info-requires
    add-put-u16
    put-u16-requires
    add-put-flag
    put-flag-requires
    add-put-zeros
    put-zeros-requires
    same_length
    returns)
