use Rattle.trace.proofs.print.Texts.{wrote-append}
use Rattle.trace.specs.Lines.{event_text}
use Rattle.trace.proofs.print.Out.put_text.Goals as goal

pub returns-clause-wrote : goal.returns-clause-wrote
unfolding event_text
returns-clause-wrote c =
    wrote-append _ _ _ _ _ c.put_byte.ensures.wrote (wrote-append _ _ _ _ _ c.put_pairs.ensures.wrote c.put_byte-2.ensures.wrote)
