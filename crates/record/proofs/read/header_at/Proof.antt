-- `record::read::header_at` meets its contract: each field is read where the format has it (`decode_got`).
-- Assumes nothing.
use Rattle.record.proofs.read.Entries.{decode_got}
use Rattle.record.proofs.read.Places.{is-held}
use native.Mathlib.Omega.{arith}
use Rattle.record.proofs.read.header_at.Statement.{statement}
use Rattle.record.proofs.read.header_at.Tie as tie

get-u16-requires : tie.Need-get_u16-requires
get-u16-requires c κs = omega arith

shared-slice-read-t4 : tie.Need-bounds-session-2
shared-slice-read-t4 c = omega arith

get-u16-requires-2 : tie.Need-get_u16-requires-2
get-u16-requires-2 c κs = omega arith

returns : tie.Need-returns
returns c =
    let x = c.args.session.now in
    let d = decode_got x in (rw (d.0, c.get_u16.ensures), rw (is-held x), rw (d.2, c.get_u16-2.ensures))

pub header_at_spec : {M : Type 1} → statement M
header_at_spec =
    tie.close (tie.spec
    get-u16-requires
    shared-slice-read-t4
    get-u16-requires-2
    returns)
