-- Assumes nothing.
use Rattle.std.proofs.Common.{refl, arith}
use Rattle.record.proofs.typed.Typing.{list_most, typed_written}
use Rattle.record.proofs.typed.put_typed.Goals as goal

pub put_text-len-requires : goal.put_text-len-requires
put_text-len-requires c = omega (arith, list_most c.args.from c.args.src.now c.requires.1)

pub returns : goal.returns
returns c =
    let a = c.args in
    typed_written a.from a.to a.src.now a.dst.now refl c.put_text-len.ensures c.put_zeros.ensures c.put_u8.ensures refl refl
