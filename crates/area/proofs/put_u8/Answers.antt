-- Assumes nothing.
use Rattle.std.proofs.Common.{refl}
use Rattle.area.specs.Splice.{splice}
use Rattle.area.proofs.put_u8.Goals as goal

pub returns : goal.returns
unfolding splice
returns c = refl
