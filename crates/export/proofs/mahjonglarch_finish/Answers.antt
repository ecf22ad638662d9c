use Rattle.export.proofs.Interface.{finish_says}
use Rattle.export.proofs.mahjonglarch_finish.Goals as goal

pub returns : goal.returns
returns c was =
    rw (← c.peeked_at-p.ensures) (finish_says _ _ _ c.args.token c.peeked_at-p.result c.finish-finished.result c.finish-finished.ensures c.refused_number.ensures was)
