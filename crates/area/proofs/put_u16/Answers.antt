-- Assumes nothing.
use Rattle.std.proofs.Common.{◌≡◌, ◌+◌, ◌-◌, ◌∙◌, arith}
use Rattle.area.specs.Bytes.{le}
use Rattle.area.proofs.Bytes.{to_bytes, length-le}
use Rattle.area.proofs.Splice.{part-splice}
use Rattle.area.proofs.put_u16.Goals as goal

pub returns : goal.returns
returns c =
    let a = c.args in
    let e : a.at + 2 - a.at ≡ 2 = omega arith in
    rw e
    (part-splice a.at 2 (le 2 a.v) _ a.s.now (c.copy_from_slice.ensures.after ∙ c.to_le_bytes.ensures ∙ to_bytes 2 a.v) (length-le 2 a.v) (omega arith))
