-- Assumes nothing.
use Rattle.segmentation.proofs.break_table.Check.{scalar_bits}
use Rattle.segmentation.proofs.break_table.ends_ok.Goals as goal

pub returns : goal.returns
returns c = rw (scalar_bits c.args.first, scalar_bits c.args.last)
