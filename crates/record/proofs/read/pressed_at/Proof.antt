-- `record::read::pressed_at` meets its contract: each field is read where the format has it (`pressed_got`).
-- Assumes nothing.
use Rattle.record.proofs.Records.{pressed_got}
use native.Mathlib.Omega.{arith}
use Rattle.record.proofs.read.pressed_at.Statement.{statement}
use Rattle.record.proofs.read.pressed_at.Tie as tie

get-u16-requires : tie.Need-get_u16-requires
get-u16-requires c κs = omega arith

shared-slice-read-t4 : tie.Need-bounds-s-2
shared-slice-read-t4 c = omega arith

shared-slice-read-t6 : tie.Need-bounds-s-3
shared-slice-read-t6 c = omega arith

shared-slice-read-t9 : tie.Need-bounds-s-4
shared-slice-read-t9 c = omega arith

returns : tie.Need-returns
returns c =
    rw (pressed_got c.args.s.now, c.get_u16.ensures)

pub pressed_at_spec : {M : Type 1} → statement M
pressed_at_spec =
    tie.close
    (tie.spec
    get-u16-requires
    shared-slice-read-t4
    shared-slice-read-t6
    shared-slice-read-t9
    returns)
