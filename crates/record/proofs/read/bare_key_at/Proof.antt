-- `record::read::bare_key_at` meets its contract: its parts are read where the format has them (`bare_read`).
-- Assumes nothing.
use native.Mathlib.Omega.{arith}
use Rattle.record.proofs.Fields.{bare_read}
use Rattle.record.proofs.read.bare_key_at.Statement.{statement}
use Rattle.record.proofs.read.bare_key_at.Tie as tie

get-u16-requires : tie.Need-get_u16-number-requires
get-u16-requires c κs = omega arith

get-u32-requires : tie.Need-get_u32-value-requires
get-u32-requires c κs = omega arith

shared-slice-read-key-at : tie.Need-bounds-s-2
shared-slice-read-key-at c = omega arith

key-at-requires : tie.Need-key_at-requires
key-at-requires c κs = tt

returns : tie.Need-returns
returns c =
    bare_read _ _ _ _ _ c.get_u16-number.ensures c.get_u32-value.ensures c.key_at.ensures

pub bare_key_at_spec : {M : Type 1} → statement M
bare_key_at_spec =
    tie.close (tie.spec
    get-u16-requires
    get-u32-requires
    shared-slice-read-key-at
    key-at-requires
    returns)
