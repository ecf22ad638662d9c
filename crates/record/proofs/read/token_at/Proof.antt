-- `record::read::token_at` meets its contract: the token stands first (`token_got`).
-- Assumes nothing.
use Rattle.record.proofs.read.Places.{token_got}
use native.Mathlib.Omega.{arith}
use Rattle.record.proofs.read.token_at.Statement.{statement}
use Rattle.record.proofs.read.token_at.Tie as tie

get-u16-requires : tie.Need-get_u16-requires
get-u16-requires c κs = omega arith

cast-t3 : tie.Need-overflow_cast-result
cast-t3 c = omega arith

returns : tie.Need-returns
returns c = rw (token_got c.args.s.now, c.get_u16.ensures)

pub token_at_spec : {M : Type 1} → statement M
token_at_spec = tie.close (tie.spec
    get-u16-requires
    cast-t3
    returns)
