-- The part that is written becomes the part that is read.
-- Assumes nothing.
use Rattle.std.proofs.Common.{◌≡◌, ◌+◌, ◌-◌, arith}
use Rattle.area.proofs.Splice.{part-splice, part_length}
use Rattle.area.proofs.span.copy_part.Goals as goal

pub returns : goal.returns
returns c =
    let a = c.args in
    let e : a.to + a.count - a.to ≡ a.count = omega arith in
    let f : a.from + a.count - a.from ≡ a.count = omega arith in
    rw e
    (part-splice a.to a.count _ _ a.dst.now (rw f at c.copy_from_slice.ensures.after)
    (part_length a.from a.count a.src.now (omega arith)) (omega arith))
