-- Assumes nothing.
use Rattle.area.proofs.Zero.{scanned}
use Rattle.area.proofs.scan.zero_part.Goals as goal

pub returns : goal.returns
returns c = scanned _ _ c.or_all.ensures
