-- The part that is written becomes zeros.
-- Assumes nothing.
use Rattle.std.proofs.Common.{◌≡◌, ◌+◌, ◌-◌, replicate, arith}
use Rattle.std.proofs.Math.ListN.{length-replicate}
use Rattle.area.proofs.Splice.{part-splice, part_length}
use Rattle.area.proofs.span.put_zeros.Goals as goal

pub returns : goal.returns
returns c =
    let a = c.args in
    let e : a.at + a.count - a.at ≡ a.count = omega arith in
    let l = part_length a.at a.count a.s.now (omega arith) in
    rw e
    (part-splice a.at a.count (replicate a.count 0) _ a.s.now
    (rw (e, l) at (c.fill.ensures.after (λ y h. h))) (length-replicate a.count 0) (omega arith))
