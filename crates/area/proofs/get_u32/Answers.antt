-- Assumes nothing.
use Rattle.std.proofs.Common.{◌∙◌, arith}
use Rattle.area.proofs.Bytes.{read_bytes}
use Rattle.area.proofs.get_u32.Goals as goal

pub returns : goal.returns
returns c =
    let part = rw c.unwrap.ensures at c.try_into.ensures in
    c.from_le_bytes.ensures ∙ read_bytes 3 _ c.args.at _ c.args.s.now part.1.same (omega arith)
