-- `record::read::unit_count` meets its contract.
-- Assumes nothing.
use mathlib.Core.Path.{sym}
use native.Mathlib.Omega.{arith}
use lib.ListN.{drop}
use lib.Seq.{get_or-drop}
use borrow.Author.Rules.{rules}
use Rattle.session.specs.Limits.{HELD_AT}
use Rattle.record.proofs.Records.{held_parts}
use Rattle.record.proofs.complete.Units.{units-count}
use Rattle.record.proofs.read.unit_count.Statement.{statement}
use Rattle.record.proofs.read.unit_count.Tie as tie

add-result : tie.Need-overflow_add-result
add-result c = search rules

shared-slice-read-result : tie.Need-bounds-session
shared-slice-read-result c = search rules

cast-result : tie.Need-overflow_cast-result
cast-result c = omega (arith, c.shared_slice_known-1.given 74)

returns : tie.Need-returns
returns c =
    let x = c.args.session.now in
    let p = c.requires in
    (sym (units-count x (λ i. omega (arith, c.shared_slice_known-1.given i)) HELD_AT (omega arith) p.1), omega (arith, get_or-drop HELD_AT x 71 0, (held_parts (drop HELD_AT x) p.1).units))

pub unit_count_spec : {M : Type 1} → statement M
unit_count_spec = tie.close (tie.spec
    add-result
    shared-slice-read-result
    cast-result
    returns)
