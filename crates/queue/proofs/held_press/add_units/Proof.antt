-- `queue::held_press::add_units` meets its contract.
-- Assumes nothing.
use mathlib.Core.Path.{refl}
use native.Mathlib.Omega.{arith}
use borrow.Author.Rules.{rules}
use Rattle.record.proofs.read.Places.{held-ok}
use Rattle.queue.proofs.HeldPress.{units_added}
use Rattle.queue.proofs.held_press.add_units.Statement.{statement}
use Rattle.queue.proofs.held_press.add_units.Tie as tie

add-units-requires : tie.Need-add_units-requires
add-units-requires c κs =
    let p = c.requires in (omega (arith, p.0.size), held-ok _ p.1 p.0.passed, p.2)

same_length : tie.Need-shape_of-session
same_length c = search rules

returns : tie.Need-returns
returns c =
    units_added c.args.session.now (λ i. omega (arith, c.slice_known-1.given i)) c.requires.0 c.requires.1 c.args.wparam c.requires.2 c.add_units.ensures refl

pub add_units_spec : {M : Type 1} → statement M
add_units_spec = tie.close (tie.spec
    add-units-requires
    same_length
    returns)
