use Rattle.std.proofs.Common.{◌<◌, get_or, arith}
use Rattle.export.proofs.Fields.{fields_read}
use Rattle.export.proofs.events.numbers_at.Goals as goal

pub returns : goal.returns
returns c =
    let s = c.args.s.now in
    let byte : get_or s 4 0 < 256 = omega (arith, c.type_inv.s 4) in
    let e = fields_read s c.requires.1 (omega arith) byte in cc
