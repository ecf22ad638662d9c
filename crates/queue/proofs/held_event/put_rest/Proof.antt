-- `queue::held_event::put_rest` meets its contract.
-- Assumes nothing.
use mathlib.Core.Path.{◌∙◌}
use Prim.Native.Nat.{ℕ, ◌<◌}
use native.Mathlib.Omega.{arith}
use lib.ListN.{get_or}
use borrow.Author.Rules.{rules}
use Rattle.queue.proofs.held_event.Press.{repeat_in, location-in}
use Rattle.queue.proofs.held_event.EventParts.{after_plain, after_typed, rest_stands}
use Rattle.queue.proofs.held_event.put_rest.Statement.{statement}
use Rattle.queue.proofs.held_event.put_rest.Tie as tie

bytes-in : (c : tie.After-slice_known-1) (i : ℕ) → get_or c.args.session.now i 0 < 256
bytes-in c i = omega (arith, c.slice_known-1.given i)

add-repeat : tie.Need-overflow_add-repeat
add-repeat c = search rules

slice-read-repeat : tie.Need-bounds-session
slice-read-repeat c = search rules

add-location-at : tie.Need-overflow_add-location_at
add-location-at c = search rules

slice-read-location-at : tie.Need-bounds-session-2
slice-read-location-at c = search rules

location-at-requires : tie.Need-location_at-location-requires
location-at-requires c κs = search rules

put-plain-key-requires : tie.Need-put_plain_key-requires
put-plain-key-requires c κs = search rules

put-typed-requires : tie.Need-put_typed-requires
put-typed-requires c κs =
    let known = c.before.before.before.before.before.before.before.before.before.before.before.before.before in
    ((after_plain _ (bytes-in known) c.requires c.put_plain_key.ensures).0, search rules)

put-marks-requires : tie.Need-put_marks-requires
put-marks-requires c κs =
    let known = c.before.before.before.before.before.before.before.before.before.before.before.before.before.before.before.before.before.before.before.before in
    (after_typed _ (bytes-in known) c.requires c.put_plain_key.ensures c.put_typed.ensures).0

same_length : tie.Need-shape_of-session
same_length c = search rules

same-length-2 : tie.Need-shape_of-answers
same-length-2 c = search rules

returns : tie.Need-returns
returns c =
    let known = c.before.before.before.before.before.before.before.before.before.before.before.before.before.before.before.before.before.before.before.before.before.before.before.before.before in
    let x = c.args.session.now in
    rest_stands _ (bytes-in known) c.requires c.put_plain_key.ensures c.put_typed.ensures _ _ (c.location_at-location.ensures ∙ location-in x) (repeat_in x)
    c.put_marks.ensures

pub put_rest_spec : {M : Type 1} → statement M
put_rest_spec =
    tie.close
    (tie.spec
    add-repeat
    slice-read-repeat
    add-location-at
    slice-read-location-at
    location-at-requires
    put-plain-key-requires
    put-typed-requires
    put-marks-requires
    same_length
    same-length-2
    returns)
