-- `record::complete::put_release_event` meets its contract.
-- Assumes nothing.
use mathlib.Core.Path.{refl}
use borrow.Author.Rules.{rules}
use Prim.Native.Nat.{ℕ, ◌<◌}
use native.Mathlib.Omega.{arith}
use lib.ListN.{get_or}
use Rattle.record.proofs.complete.Events.{logical_ok, release-written}
use Rattle.record.proofs.complete.put_release_event.Statement.{statement}
use Rattle.record.proofs.complete.put_release_event.Tie as tie

bytes-in : (c : tie.After-shared_slice_known-1) (i : ℕ) → get_or c.args.src.now i 0 < 256
bytes-in c i = omega (arith, c.shared_slice_known-1.given i)

get-u16-requires : tie.Need-get_u16-scancode-requires
get-u16-requires c κs = search rules

add-repeat : tie.Need-overflow_add-repeat
add-repeat c = search rules

shared-slice-read-repeat : tie.Need-bounds-src-from
shared-slice-read-repeat c = search rules

add-location-at : tie.Need-overflow_add-from
add-location-at c = search rules

shared-slice-read-location-at : tie.Need-bounds-src-from-2
shared-slice-read-location-at c = search rules

location-at-requires : tie.Need-location_at-location-requires
location-at-requires c κs = search rules

keycode-from-scancode-requires : tie.Need-keycode_from_scancode-code-requires
keycode-from-scancode-requires c κs = search rules

add-copy-part : tie.Need-overflow_add-from-2
add-copy-part c = search rules

add-copy-part-2 : tie.Need-overflow_add-at
add-copy-part-2 c = search rules

copy-part-requires : tie.Need-copy_part-requires
copy-part-requires c κs = search rules

add-put-no-texts : tie.Need-overflow_add-at-2
add-put-no-texts c = search rules

put-no-texts-requires : tie.Need-put_no_texts-requires
put-no-texts-requires c κs = search rules

add-copy-key : tie.Need-overflow_add-from-3
add-copy-key c = search rules

add-copy-key-2 : tie.Need-overflow_add-at-3
add-copy-key-2 c = search rules

copy-key-requires : tie.Need-copy_key-requires
copy-key-requires c κs =
    (search rules, logical_ok c.args.src.now c.args.from c.requires.1, search rules)

put-code-requires : tie.Need-put_code-requires
put-code-requires c κs = search rules

same_length : tie.Need-shape_of-dst
same_length c = search rules

returns : tie.Need-returns
returns c =
    let known = c.before.before.before.before.before.before.before.before.before.before.before.before.before.before.before.before.before.before.before.before.before.before in
    let a = c.args in
    release-written a.src.now (bytes-in known) a.from c.requires.0 c.requires.1 a.at a.dst.now
    c.get_u16-scancode.ensures c.keycode_from_scancode-code.ensures refl c.location_at-location.ensures refl c.copy_part.ensures
    c.put_no_texts.ensures c.copy_key.ensures c.put_code.ensures refl refl refl

pub put_release_event_spec : {M : Type 1} → statement M
put_release_event_spec =
    tie.close
    (tie.spec
    get-u16-requires
    add-repeat
    shared-slice-read-repeat
    add-location-at
    shared-slice-read-location-at
    location-at-requires
    keycode-from-scancode-requires
    add-copy-part
    add-copy-part-2
    copy-part-requires
    add-put-no-texts
    put-no-texts-requires
    add-copy-key
    add-copy-key-2
    copy-key-requires
    put-code-requires
    same_length
    returns)
