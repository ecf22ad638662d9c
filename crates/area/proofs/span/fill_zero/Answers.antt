-- The part that is written becomes zeros, up to the end.
-- Assumes nothing.
use Rattle.std.proofs.Common.{◌-◌, ◌∙◌, length, replicate, arith}
use Rattle.std.proofs.Math.ListN.{length-replicate}
use Rattle.area.proofs.Splice.{part-splice, part_length}
use Rattle.area.proofs.Zero.{zero_fill}
use Rattle.area.proofs.span.fill_zero.Goals as goal

pub returns : goal.returns
returns c =
    let a = c.args in
    let k = length a.s.now - a.n in
    let l = part_length a.n k a.s.now (omega arith) in
    part-splice a.n k (replicate k 0) _ a.s.now (rw l at (c.fill.ensures.after (λ y h. h))) (length-replicate k 0) (omega arith)
    ∙ zero_fill a.n a.s.now (omega arith)
