-- `record::complete::complete_release` meets its contract.
-- Assumes nothing.
use mathlib.Core.Path.{refl}
use Prim.Native.Nat.{ℕ, ◌<◌}
use native.Mathlib.Omega.{arith}
use lib.ListN.{get_or}
use borrow.Author.Rules.{rules}
use Rattle.record.proofs.complete.Events.{logical_still, release_completed}
use Rattle.record.proofs.complete.complete_release.Statement.{statement}
use Rattle.record.proofs.complete.complete_release.Tie as tie

bytes-in : (c : tie.After-slice_known-1) (i : ℕ) → get_or c.args.s.now i 0 < 256
bytes-in c i = omega (arith, c.slice_known-1.given i)

add-get-u16 : tie.Need-overflow_add-at
add-get-u16 c = search rules

get-u16-requires : tie.Need-get_u16-scancode-requires
get-u16-requires c κs = search rules

add-repeat : tie.Need-overflow_add-repeat
add-repeat c = search rules

slice-read-repeat : tie.Need-bounds-s-at
slice-read-repeat c = search rules

add-location-at : tie.Need-overflow_add-at-2
add-location-at c = search rules

slice-read-location-at : tie.Need-bounds-s-at-2
slice-read-location-at c = search rules

location-at-requires : tie.Need-location_at-location-requires
location-at-requires c κs = search rules

keycode-from-scancode-requires : tie.Need-keycode_from_scancode-code-requires
keycode-from-scancode-requires c κs = search rules

add-move-up : tie.Need-overflow_add-at-3
add-move-up c = search rules

move-up-requires : tie.Need-move_up-requires
move-up-requires c κs = search rules

add-put-no-texts : tie.Need-overflow_add-at-4
add-put-no-texts c = search rules

put-no-texts-requires : tie.Need-put_no_texts-requires
put-no-texts-requires c κs = search rules

add-move-key : tie.Need-overflow_add-at-5
add-move-key c = search rules

move-key-requires : tie.Need-move_key-requires
move-key-requires c κs =
    let known = c.before.before.before.before.before.before.before.before.before.before.before.before.before.before in
    let a = c.args in
    (search rules, (logical_still a.s.now (bytes-in known) a.at c.requires.0 c.requires.1 _ _ c.move_up.ensures c.put_no_texts.ensures).0)

add-put-code : tie.Need-overflow_add-at-6
add-put-code c = search rules

put-code-requires : tie.Need-put_code-requires
put-code-requires c κs = search rules

same_length : tie.Need-shape_of-s
same_length c = search rules

returns : tie.Need-returns
returns c =
    let known = c.before.before.before.before.before.before.before.before.before.before.before.before.before.before.before.before.before.before.before.before.before in
    let a = c.args in
    release_completed a.s.now (bytes-in known) a.at c.requires.0 c.requires.1 c.get_u16-scancode.ensures c.keycode_from_scancode-code.ensures
    refl c.location_at-location.ensures c.move_up.ensures c.put_no_texts.ensures c.move_key.ensures c.put_code.ensures

pub complete_release_spec : {M : Type 1} → statement M
complete_release_spec =
    tie.close
    (tie.spec
    add-get-u16
    get-u16-requires
    add-repeat
    slice-read-repeat
    add-location-at
    slice-read-location-at
    location-at-requires
    keycode-from-scancode-requires
    add-move-up
    move-up-requires
    add-put-no-texts
    put-no-texts-requires
    add-move-key
    move-key-requires
    add-put-code
    put-code-requires
    same_length
    returns)
