-- `queue::pending::open_count` meets its contract.
-- Assumes nothing.
use mathlib.Core.Path.{refl}
use native.Mathlib.Omega.{arith}
use lib.ListN.{length-drop}
use borrow.Author.Rules.{rules}
use Rattle.area.proofs.Splice.{part_rest}
use Rattle.queue.proofs.Areas.{count_most}
use Rattle.queue.proofs.pending.EntryLoops.{counted}
use Rattle.queue.proofs.pending.open_count.Statement.{statement}
use Rattle.queue.proofs.pending.open_count.Tie as tie

header-at-requires : tie.Need-header_at-h-requires
header-at-requires c κs = search rules

sub-open-count : tie.Need-slice_bounds-open_count-count
sub-open-count c = search rules

part-open-count-start : tie.Need-slice_bounds-open_count-start
part-open-count-start c = search rules

part-open-count-end : tie.Need-slice_bounds-open_count-end
part-open-count-end c = search rules

cast-open-count : tie.Need-overflow_cast-h
cast-open-count c = search rules

open-count-requires : tie.Need-open_count-requires
open-count-requires c κs =
    let m = count_most c.args.session.now (λ i. omega (arith, c.shared_slice_known-1.given i)) c.requires in
    (omega arith, rw (part_rest, length-drop) (omega arith))

returns : tie.Need-returns
returns c = counted c.args.session.now c.open_count.ensures (omega (arith, c.header_at-h.ensures.2)) refl

pub open_count_spec : {M : Type 1} → statement M
open_count_spec =
    tie.close
    (tie.spec
    header-at-requires
    sub-open-count
    part-open-count-start
    part-open-count-end
    cast-open-count
    open-count-requires
    returns)
