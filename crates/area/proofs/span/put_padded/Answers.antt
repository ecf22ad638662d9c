-- The text and the zeros behind it are one write.
-- Assumes nothing.
use Rattle.std.proofs.Common.{◌-◌, refl, length, replicate}
use Rattle.std.proofs.Math.Seq.{take-length}
use Rattle.area.specs.Splice.{padded}
use Rattle.area.proofs.Splice.{chain}
use Rattle.area.proofs.span.put_padded.Goals as goal

pub returns : goal.returns
unfolding padded
returns c =
    let a = c.args in
    let t = a.t.now in
    chain a.at (length t) t (replicate (a.width - length t) 0) a.s.now refl (rw take-length at c.copy_part.ensures) c.put_zeros.ensures
