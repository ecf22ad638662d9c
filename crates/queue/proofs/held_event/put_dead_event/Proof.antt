-- `queue::held_event::put_dead_event` meets its contract.
-- Assumes nothing.
use mathlib.Core.Path.{ap}
use mathlib.Core.Bool.{not}
use Prim.Native.Nat.{ℕ, ◌+◌, ◌<◌}
use native.Mathlib.Omega.{arith}
use lib.Dec.{eqb}
use lib.ListN.{get_or}
use borrow.Author.Rules.{rules}
use Rattle.session.specs.Limits.{HELD_AT}
use Rattle.queue.proofs.held_event.Press.{mark_in}
use Rattle.queue.proofs.held_event.EventParts.{after_rest, after_no_text, after_known, dead-stands}
use Rattle.queue.proofs.held_event.put_dead_event.Statement.{statement}
use Rattle.queue.proofs.held_event.put_dead_event.Tie as tie

bytes-in : (c : tie.After-slice_known-1) (i : ℕ) → get_or c.args.session.now i 0 < 256
bytes-in c i = omega (arith, c.slice_known-1.given i)

add-mark : tie.Need-overflow_add-mark
add-mark c = search rules

slice-read-mark : tie.Need-bounds-session
slice-read-mark c = search rules

put-rest-requires : tie.Need-put_rest-requires
put-rest-requires c κs = search rules

add-put-zeros : tie.Need-overflow_add-put_zeros
add-put-zeros c = search rules

put-zeros-requires : tie.Need-put_zeros-requires
put-zeros-requires c κs =
    let known = c.before.before.before.before.before.before.before.before.before.before.before in
    ((after_rest _ (bytes-in known) c.requires c.put_rest.ensures).0, search rules)

put-known-key-requires : tie.Need-put_known_key-requires
put-known-key-requires c κs =
    let known = c.before.before.before.before.before.before.before.before.before.before.before.before.before.before.before.before.before.before in
    (after_no_text _ (bytes-in known) c.requires c.put_rest.ensures c.put_zeros.ensures).0

put-last-code-requires : tie.Need-put_last_code-requires
put-last-code-requires c κs =
    let known = c.before.before.before.before.before.before.before.before.before.before.before.before.before.before.before.before.before.before.before.before.before.before.before.before.before in
    (after_known _ (bytes-in known) c.requires c.put_rest.ensures c.put_zeros.ensures (not (eqb (get_or c.args.session.now (HELD_AT + 70) 0) 1))
    c.put_known_key.ensures).0

same_length : tie.Need-shape_of-session
same_length c = search rules

same-length-2 : tie.Need-shape_of-answers
same-length-2 c = search rules

returns : tie.Need-returns
returns c =
    let known = c.before.before.before.before.before.before.before.before.before.before.before.before.before.before.before.before.before.before.before.before.before.before.before.before.before.before.before.before.before.before in
    dead-stands _ (bytes-in known) c.requires c.put_rest.ensures c.put_zeros.ensures _ c.put_known_key.ensures
    (ap not (mark_in c.args.session.now)) c.put_last_code.ensures

pub put_dead_event_spec : {M : Type 1} → statement M
put_dead_event_spec =
    tie.close
    (tie.spec
    add-mark
    slice-read-mark
    put-rest-requires
    add-put-zeros
    put-zeros-requires
    put-known-key-requires
    put-last-code-requires
    same_length
    same-length-2
    returns)
