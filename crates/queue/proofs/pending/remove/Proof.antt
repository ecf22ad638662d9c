-- `queue::pending::remove` meets its contract.
-- Assumes nothing.
use mathlib.Core.Path.{refl}
use Prim.Native.Nat.{ℕ, ◌≤◌, ◌<◌}
use native.Mathlib.Omega.{arith}
use lib.ListN.{get_or, length}
use borrow.Author.Rules.{rules}
use Rattle.session.specs.Limits.{ENTRIES_MOST}
use Rattle.session.specs.Area.{decode}
use Rattle.queue.proofs.Areas.{count_most}
use Rattle.queue.proofs.pending.EntryOfToken.{dropped}
use Rattle.queue.proofs.pending.remove.Statement.{statement}
use Rattle.queue.proofs.pending.remove.Tie as tie

bytes-in : (c : tie.After-slice_known-1) (i : ℕ) → get_or c.args.session.now i 0 < 256
bytes-in c i = omega (arith, c.slice_known-1.given i)

-- from the header back to the area, which has so many entries
abbrev area : tie.After-header_at-h → tie.After-slice_known-1
area c = c.before

few-in : (c : tie.After-header_at-h) → length (decode c.args.session.now).entries ≤ ENTRIES_MOST
few-in c = count_most _ (bytes-in c.before) c.requires.area

header-at-requires : tie.Need-header_at-h-requires
header-at-requires c κs = search rules

cast-last : tie.Need-overflow_cast-last
cast-last c = search rules

sub-last : tie.Need-overflow_sub-last
sub-last c = search rules

mul-move-down : tie.Need-overflow_mul-place
mul-move-down c = search rules

add-move-down : tie.Need-overflow_add-place
add-move-down c = search rules

sub-move-down : tie.Need-overflow_sub-last-2
sub-move-down c = search rules

mul-move-down-2 : tie.Need-overflow_mul-last
mul-move-down-2 c = search rules

move-down-requires : tie.Need-move_down-requires
move-down-requires c κs = omega (arith, few-in c.before.before)

mul-put-zeros : tie.Need-overflow_mul-last-2
mul-put-zeros c = search rules

add-put-zeros : tie.Need-overflow_add-last
add-put-zeros c = search rules

put-zeros-requires : tie.Need-put_zeros-requires
put-zeros-requires c κs =
    let header_at = c.before.before.before.before.before.before in
    omega (arith, few-in header_at)

sub-put-u16 : tie.Need-overflow_sub-h
sub-put-u16 c = search rules

put-u16-requires : tie.Need-put_u16-requires
put-u16-requires c κs = search rules

same_length : tie.Need-shape_of-session
same_length c = search rules

returns : tie.Need-returns
returns c =
    let known = c.before.before.before.before.before.before.before.before.before.before.before.before.before.before.before in
    dropped _ (bytes-in known) c.args.token.0 c.args.place c.requires
    c.move_down.ensures c.put_zeros.ensures c.put_u16.ensures c.header_at-h.ensures.2 refl refl refl refl refl

pub remove_spec : {M : Type 1} → statement M
remove_spec =
    tie.close
    (tie.spec
    header-at-requires
    cast-last
    sub-last
    mul-move-down
    add-move-down
    sub-move-down
    mul-move-down-2
    move-down-requires
    mul-put-zeros
    add-put-zeros
    put-zeros-requires
    sub-put-u16
    put-u16-requires
    same_length
    returns)
