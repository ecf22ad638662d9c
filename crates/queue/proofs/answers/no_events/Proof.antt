-- `queue::answers::no_events` meets its contract.
-- Assumes nothing.
use mathlib.Core.Path.{refl}
use borrow.Author.Rules.{rules}
use Rattle.queue.proofs.answers.AnswerArea.{ended_none}
use Rattle.queue.proofs.answers.no_events.Statement.{statement}
use Rattle.queue.proofs.answers.no_events.Tie as tie

close-requires : tie.Need-close-requires
close-requires c κs = search rules

same_length : tie.Need-shape_of-answers
same_length c = search rules

returns : tie.Need-returns
returns c =
    ended_none c.args.answers.now c.requires c.close.ensures refl

pub no_events_spec : {M : Type 1} → statement M
no_events_spec = tie.close (tie.spec
    close-requires
    same_length
    returns)
