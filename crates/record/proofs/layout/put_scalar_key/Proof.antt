-- `record::layout::put_scalar_key` meets its contract.
-- Assumes nothing.
use mathlib.Core.Path.{refl}
use native.Mathlib.Omega.{arith}
use borrow.Author.Rules.{rules}
use Rattle.text.proofs.Text.{utf8-length}
use Rattle.record.proofs.layout.Keys.{scalar-written}
use Rattle.record.proofs.layout.put_scalar_key.Statement.{statement}
use Rattle.record.proofs.layout.put_scalar_key.Tie as tie

put-zeros-requires : tie.Need-put_zeros-requires
put-zeros-requires c κs = search rules

add-put-scalar : tie.Need-overflow_add-at
add-put-scalar c = search rules

put-scalar-requires : tie.Need-put_scalar-end-requires
put-scalar-requires c κs =
    (c.requires.1, omega (arith, utf8-length c.args.c))

add-put-u8 : tie.Need-overflow_add-at-2
add-put-u8 c = search rules

add-put-u8-2 : tie.Need-overflow_add-at-3
add-put-u8-2 c = search rules

sub-put-u8 : tie.Need-overflow_sub-end
sub-put-u8 c = omega (arith, c.put_scalar-end.ensures.0)

cast-put-u8 : tie.Need-overflow_cast-end
cast-put-u8 c =
    omega (arith, c.put_scalar-end.ensures.0, utf8-length c.args.c)

put-u8-requires : tie.Need-put_u8-requires
put-u8-requires c κs = search rules

same_length : tie.Need-shape_of-s
same_length c = search rules

returns : tie.Need-returns
returns c =
    let a = c.args in
    scalar-written a.c a.at a.s.now c.put_zeros.ensures c.put_scalar-end.ensures.1 c.put_u8.ensures refl refl refl
    (omega (arith, c.put_scalar-end.ensures.0))

pub put_scalar_key_spec : {M : Type 1} → statement M
put_scalar_key_spec =
    tie.close
    (tie.spec
    put-zeros-requires
    add-put-scalar
    put-scalar-requires
    add-put-u8
    add-put-u8-2
    sub-put-u8
    cast-put-u8
    put-u8-requires
    same_length
    returns)
