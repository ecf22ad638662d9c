-- `queue::held_press::forget_held` meets its contract.
-- Assumes nothing.
use mathlib.Core.Path.{refl}
use borrow.Author.Rules.{rules}
use Rattle.queue.proofs.HeldPress.{held_forgotten}
use Rattle.queue.proofs.held_press.forget_held.Statement.{statement}
use Rattle.queue.proofs.held_press.forget_held.Tie as tie

put-no-held-requires : tie.Need-put_no_held-requires
put-no-held-requires c κs = search rules

same_length : tie.Need-shape_of-session
same_length c = search rules

returns : tie.Need-returns
returns c x at b bytes area behind put = held_forgotten x bytes area at b behind put c.put_no_held.ensures refl

pub forget_held_spec : {M : Type 1} → statement M
forget_held_spec = tie.close (tie.spec
    put-no-held-requires
    same_length
    returns)
