use Rattle.trace.proofs.print.Texts.{wrote-append}
use Rattle.trace.specs.Lines.{event_line}
use Rattle.trace.proofs.print.Out.put_event.Goals as goal

pub returns-clause-wrote : goal.returns-clause-wrote
unfolding event_line
returns-clause-wrote c =
    wrote-append _ _ _ _ _ c.put_head.ensures.wrote (wrote-append _ _ _ _ _ c.put_marks.ensures.wrote c.put_text.ensures.wrote)
