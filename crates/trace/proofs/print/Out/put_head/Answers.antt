use Rattle.trace.proofs.print.Texts.{wrote-append}
use Rattle.trace.specs.Lines.{event_head}
use Rattle.trace.proofs.print.Out.put_head.Goals as goal

pub returns-clause-wrote : goal.returns-clause-wrote
unfolding event_head
returns-clause-wrote c =
    wrote-append _ _ _ _ _ c.put_byte.ensures.wrote (wrote-append _ _ _ _ _ c.put_field.ensures.wrote (rw c.from.ensures at c.put_field-2.ensures.wrote))
