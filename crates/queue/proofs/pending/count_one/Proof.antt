-- `queue::pending::count_one` meets its contract.
-- Assumes nothing.
use mathlib.Core.Path.{refl}
use borrow.Author.Rules.{rules}
use Rattle.queue.proofs.pending.NewEntry.{counted}
use Rattle.queue.proofs.pending.count_one.Statement.{statement}
use Rattle.queue.proofs.pending.count_one.Tie as tie

add-put-u16 : tie.Need-overflow_add-h
add-put-u16 c = search rules

put-u16-requires : tie.Need-put_u16-requires
put-u16-requires c κs = search rules

add-put-u16-2 : tie.Need-overflow_add-h-2
add-put-u16-2 c = search rules

put-u16-requires-2 : tie.Need-put_u16-requires-2
put-u16-requires-2 c κs = search rules

same_length : tie.Need-shape_of-session
same_length c = search rules

returns : tie.Need-returns
returns c =
    let a = c.args in
    counted a.h.count a.h.handed a.session.now c.put_u16.ensures c.put_u16-2.ensures refl refl

pub count_one_spec : {M : Type 1} → statement M
count_one_spec =
    tie.close
    (tie.spec
    add-put-u16
    put-u16-requires
    add-put-u16-2
    put-u16-requires-2
    same_length
    returns)
