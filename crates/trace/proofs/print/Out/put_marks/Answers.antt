use Rattle.trace.proofs.print.Texts.{wrote-append}
use Rattle.trace.specs.Lines.{event_marks}
use Rattle.trace.proofs.print.Out.put_marks.Goals as goal

pub returns-clause-wrote : goal.returns-clause-wrote
unfolding event_marks
returns-clause-wrote c =
    wrote-append _ _ _ _ _ (rw c.from.ensures at c.put_field.ensures.wrote)
    (wrote-append _ _ _ _ _ (rw c.from-2.ensures at c.put_field-2.ensures.wrote) (rw c.from-3.ensures at c.put_field-3.ensures.wrote))
