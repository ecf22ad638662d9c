-- `queue::held_press::set_held` meets its contract.
-- Assumes nothing.
use Rattle.std.specs.Prelude.{Some}
use mathlib.Core.Path.{refl}
use native.Mathlib.Omega.{arith}
use borrow.Author.Rules.{rules}
use Rattle.queue.proofs.HeldPress.{set_fits, held-set}
use Rattle.queue.proofs.held_press.set_held.Statement.{statement}
use Rattle.queue.proofs.held_press.set_held.Tie as tie

put-held-requires : tie.Need-put_held-requires
put-held-requires c κs = search rules

same_length : tie.Need-shape_of-session
same_length c = search rules

returns : tie.Need-returns
returns c =
    held-set c.args.session.now (λ i. omega (arith, c.slice_known-1.given i)) c.requires.0 (Some _) (set_fits _ refl c.requires.2) c.put_held.ensures refl

pub set_held_spec : {M : Type 1} → statement M
set_held_spec = tie.close (tie.spec
    put-held-requires
    same_length
    returns)
