use Rattle.std.proofs.Common.{refl}
use Rattle.export.proofs.Interface.{open_says}
use Rattle.export.proofs.mahjonglarch_open.Goals as goal

pub returns : goal.returns
returns c = open_says _ _ _ _ _ c.open-opened.ensures refl c.refused_number.ensures c.token_number.ensures c.result_number.ensures
