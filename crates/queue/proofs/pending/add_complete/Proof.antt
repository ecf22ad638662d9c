-- `queue::pending::add_complete` meets its contract.
-- Assumes nothing.
use mathlib.Core.Path.{refl}
use borrow.Author.Rules.{rules}
use Rattle.queue.proofs.pending.NewEntry.{completed}
use Rattle.queue.proofs.pending.add_complete.Statement.{statement}
use Rattle.queue.proofs.pending.add_complete.Tie as tie

cast-t4 : tie.Need-overflow_cast-token
cast-t4 c = search rules

next-place-requires : tie.Need-next_place-requires
next-place-requires c κs = search rules

put-completed-requires : tie.Need-put_completed-requires
put-completed-requires c κs = search rules

count-one-requires : tie.Need-count_one-requires
count-one-requires c κs = search rules

same_length : tie.Need-shape_of-session
same_length c = search rules

returns : tie.Need-returns
returns c x e b room fits h n stands =
    completed x b room e fits stands c.put_completed.ensures c.count_one.ensures n h c.next_place.ensures refl

pub add_complete_spec : {M : Type 1} → statement M
add_complete_spec =
    tie.close
    (tie.spec
    cast-t4
    next-place-requires
    put-completed-requires
    count-one-requires
    same_length
    returns)
