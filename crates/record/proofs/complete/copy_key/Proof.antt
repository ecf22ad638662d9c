-- `record::complete::copy_key` meets its contract.
-- Assumes nothing.
use mathlib.Core.Path.{refl}
use borrow.Author.Rules.{rules}
use Prim.Native.Nat.{ℕ, ◌<◌}
use native.Mathlib.Omega.{arith}
use lib.ListN.{get_or}
use Rattle.record.proofs.complete.Keys.{key-moved}
use Rattle.record.proofs.complete.copy_key.Statement.{statement}
use Rattle.record.proofs.complete.copy_key.Tie as tie

copy-part-requires : tie.Need-copy_part-requires
copy-part-requires c κs = search rules

add-put-zeros : tie.Need-overflow_add-to
add-put-zeros c = search rules

put-zeros-requires : tie.Need-put_zeros-requires
put-zeros-requires c κs = search rules

same_length : tie.Need-shape_of-dst
same_length c = search rules

bytes-in : (c : tie.After-shared_slice_known-1) (i : ℕ) → get_or c.args.src.now i 0 < 256
bytes-in c i = omega (arith, c.shared_slice_known-1.given i)

returns : tie.Need-returns
returns c =
    let known = c.before.before.before.before.before.before.before.before.before in
    let a = c.args in
    key-moved a.src.now (bytes-in known) a.from c.requires.0 c.requires.1 a.to a.dst.now c.copy_part.ensures
    c.put_zeros.ensures refl refl

pub copy_key_spec : {M : Type 1} → statement M
copy_key_spec =
    tie.close
    (tie.spec
    copy-part-requires
    add-put-zeros
    put-zeros-requires
    same_length
    returns)
