-- `queue::held_event::put_plain_key` meets its contract.
-- Assumes nothing.
use mathlib.Core.Path.{refl}
use Prim.Native.Nat.{ℕ, ◌<◌}
use native.Mathlib.Omega.{arith}
use lib.ListN.{get_or}
use borrow.Author.Rules.{rules}
use Rattle.queue.proofs.Standing.{stands-first, stands-later}
use Rattle.queue.proofs.held_event.Press.{plain_bytes}
use Rattle.queue.proofs.held_event.EventParts.{stands_as}
use Rattle.queue.proofs.held_event.put_plain_key.Statement.{statement}
use Rattle.queue.proofs.held_event.put_plain_key.Tie as tie

bytes-in : (c : tie.After-slice_known-1) (i : ℕ) → get_or c.args.session.now i 0 < 256
bytes-in c i = omega (arith, c.slice_known-1.given i)

add-copy-part : tie.Need-overflow_add-copy_part
add-copy-part c = search rules

copy-part-requires : tie.Need-copy_part-requires
copy-part-requires c κs = search rules

same_length : tie.Need-shape_of-session-then-place-eq0
same_length c = search rules

same-length-2 : tie.Need-shape_of-answers-then-place-eq0
same-length-2 c = search rules

returns : tie.Need-returns-then-place-eq0
returns c =
    let known = c.before.before.before.before.before.before in
    stands_as _ 164 (plain_bytes (bytes-in known) c.requires)
    (stands-first _ 164 _ _ _ c.if-place-eq0.true c.copy_part.ensures refl)

event-at-requires : tie.Need-event_at-requires
event-at-requires c κs = search rules

add-gap : tie.Need-overflow_add-gap
add-gap c = search rules

sub-gap : tie.Need-overflow_sub-gap
sub-gap c = search rules

move-up-requires : tie.Need-move_up-requires
move-up-requires c κs = search rules

same-length-3 : tie.Need-shape_of-session
same-length-3 c = search rules

returns-2 : tie.Need-returns
returns-2 c =
    let known = c.before.before.before.before.before.before.before in
    stands_as _ 164 (plain_bytes (bytes-in known) c.requires)
    (stands-later _ 164 _ _ _ (λ i. omega (arith, c.if-place-eq0.false)) c.move_up.ensures (omega arith))

pub put_plain_key_spec : {M : Type 1} → statement M
put_plain_key_spec =
    tie.close
    (tie.spec
    add-copy-part
    copy-part-requires
    same_length
    same-length-2
    returns
    event-at-requires
    add-gap
    sub-gap
    move-up-requires
    same-length-3
    returns-2)
