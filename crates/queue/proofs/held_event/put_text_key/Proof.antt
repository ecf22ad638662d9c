-- `queue::held_event::put_text_key` meets its contract.
-- Assumes nothing.
use mathlib.Core.Path.{refl}
use Prim.Native.Nat.{ℕ, ◌<◌}
use native.Mathlib.Omega.{arith}
use lib.ListN.{get_or}
use borrow.Author.Rules.{rules}
use Rattle.queue.proofs.held_event.Press.{still_completing}
use Rattle.queue.proofs.Standing.{stands-down}
use Rattle.queue.proofs.held_event.EventParts.{character-bytes, stands_as}
use Rattle.queue.proofs.held_event.put_text_key.Statement.{statement}
use Rattle.queue.proofs.held_event.put_text_key.Tie as tie

bytes-in : (c : tie.After-slice_known-1) (i : ℕ) → get_or c.args.session.now i 0 < 256
bytes-in c i = omega (arith, c.slice_known-1.given i)

add-put-last-text : tie.Need-overflow_add-put_last_text
add-put-last-text c = search rules

put-last-text-requires : tie.Need-put_last_text-requires
put-last-text-requires c κs = search rules

put-zeros-requires : tie.Need-put_zeros-requires
put-zeros-requires c κs =
    let known = c.before.before.before.before.before.before.before.before.before.before.before in
    ((still_completing _ 13 _ (bytes-in known) c.requires.0 c.put_last_text.ensures).0, search rules)

same_length : tie.Need-shape_of-session
same_length c = search rules

same-length-2 : tie.Need-shape_of-answers
same-length-2 c = search rules

returns : tie.Need-returns
returns c =
    stands_as _ 6 (character-bytes _) (stands-down _ 6 7 _ _ refl c.put_last_text.ensures c.put_zeros.ensures)

pub put_text_key_spec : {M : Type 1} → statement M
put_text_key_spec =
    tie.close
    (tie.spec
    add-put-last-text
    put-last-text-requires
    put-zeros-requires
    same_length
    same-length-2
    returns)
