use Rattle.trace.proofs.print.Texts.{wrote_byte}
use Rattle.trace.proofs.print.Out.put_byte.Goals as goal

pub returns-clause-wrote : goal.returns-clause-wrote
returns-clause-wrote c = wrote_byte _ _ _
