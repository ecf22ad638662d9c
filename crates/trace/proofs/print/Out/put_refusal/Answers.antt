use Rattle.trace.proofs.print.Texts.{wrote-append}
use Rattle.trace.specs.Lines.{refusal_line}
use Rattle.trace.proofs.print.Out.put_refusal.Goals as goal

pub returns-clause-wrote : goal.returns-clause-wrote
unfolding refusal_line
returns-clause-wrote c =
    wrote-append _ _ _ _ _ c.put_byte.ensures.wrote
    (wrote-append _ _ _ _ _ c.put_field.ensures.wrote (wrote-append _ _ _ _ _ (rw c.from.ensures at c.put_field-2.ensures.wrote) c.put_byte-2.ensures.wrote))
