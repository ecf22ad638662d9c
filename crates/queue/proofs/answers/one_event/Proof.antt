-- `queue::answers::one_event` meets its contract.
-- Assumes nothing.
use mathlib.Core.Path.{refl}
use borrow.Author.Rules.{rules}
use Rattle.queue.proofs.answers.AnswerArea.{ended-one}
use Rattle.queue.proofs.answers.one_event.Statement.{statement}
use Rattle.queue.proofs.answers.one_event.Tie as tie

close-requires : tie.Need-close-requires
close-requires c κs = search rules

same_length : tie.Need-shape_of-answers
same_length c = search rules

returns : tie.Need-returns
returns c e y fits size put = ended-one e y fits size put c.close.ensures refl refl

pub one_event_spec : {M : Type 1} → statement M
one_event_spec = tie.close (tie.spec
    close-requires
    same_length
    returns)
