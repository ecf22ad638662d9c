-- `queue::pending::restart` meets its contract.
-- Assumes nothing.
use mathlib.Core.Path.{refl}
use native.Mathlib.Omega.{arith}
use borrow.Author.Rules.{rules}
use Rattle.queue.proofs.pending.EntryOfToken.{emptied}
use Rattle.queue.proofs.pending.restart.Statement.{statement}
use Rattle.queue.proofs.pending.restart.Tie as tie

fill-zero-requires : tie.Need-fill_zero-requires
fill-zero-requires c κs = search rules

put-u16-requires : tie.Need-put_u16-requires
put-u16-requires c κs = search rules

same_length : tie.Need-shape_of-session
same_length c = search rules

returns : tie.Need-returns
returns c =
    emptied c.args.session.now (λ i. omega (arith, c.slice_known-1.given i)) c.requires c.fill_zero.ensures c.put_u16.ensures refl refl

pub restart_spec : {M : Type 1} → statement M
restart_spec = tie.close (tie.spec
    fill-zero-requires
    put-u16-requires
    same_length
    returns)
