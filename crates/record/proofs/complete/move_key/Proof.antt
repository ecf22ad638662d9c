-- `record::complete::move_key` meets its contract.
-- Assumes nothing.
use mathlib.Core.Path.{refl}
use borrow.Author.Rules.{rules}
use Prim.Native.Nat.{ℕ, ◌<◌}
use native.Mathlib.Omega.{arith}
use lib.ListN.{get_or}
use Rattle.record.proofs.complete.Keys.{key-moved}
use Rattle.record.proofs.complete.move_key.Statement.{statement}
use Rattle.record.proofs.complete.move_key.Tie as tie

move-up-requires : tie.Need-move_up-requires
move-up-requires c κs = search rules

add-put-zeros : tie.Need-overflow_add-from
add-put-zeros c = search rules

add-put-zeros-2 : tie.Need-overflow_add-from-2
add-put-zeros-2 c = search rules

put-zeros-requires : tie.Need-put_zeros-requires
put-zeros-requires c κs = search rules

same_length : tie.Need-shape_of-s
same_length c = search rules

bytes-in : (c : tie.After-slice_known-1) (i : ℕ) → get_or c.args.s.now i 0 < 256
bytes-in c i = omega (arith, c.slice_known-1.given i)

returns : tie.Need-returns
returns c =
    let known = c.before.before.before.before.before.before.before.before in
    let a = c.args in
    let h = c.requires.0 in
    key-moved a.s.now (bytes-in known) a.from (omega arith) c.requires.1 _ a.s.now c.move_up.ensures
    c.put_zeros.ensures refl refl

pub move_key_spec : {M : Type 1} → statement M
move_key_spec =
    tie.close
    (tie.spec
    move-up-requires
    add-put-zeros
    add-put-zeros-2
    put-zeros-requires
    same_length
    returns)
