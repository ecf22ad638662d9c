-- Assumes nothing.
use Rattle.std.proofs.Common.{arith}
use Rattle.area.proofs.Walk.{walk_start, walk_turn, walk_end}
use Rattle.segmentation.specs.Layout.{known_at}
use Rattle.segmentation.proofs.break_table.Check.{known_bit, kinds_count}
use Rattle.segmentation.proofs.break_table.all_known.Goals as goal

pub loop-kind-init : goal.loop-kind-init
loop-kind-init c = walk_start (known_at c.args.table.now) c.args.n

pub loop-kind-preserved : goal.loop-kind-preserved
loop-kind-preserved c =
    let x = c.args.table.now in
    let i = c.loop-kind.kind-index in
    let count = kinds_count x c.args.n c.requires.1 in
    walk_turn (known_at x) c.args.n c.loop-kind.ok _ i (omega (arith, c.loop-kind-test.true, count))
    (known_bit x i c.args.n c.requires.0 _ c.kind_ok-ok.ensures) c.loop-kind.invariant

pub returns : goal.returns
returns c =
    let count = kinds_count c.args.table.now c.args.n c.requires.1 in
    walk_end _ _ _ _ (omega (arith, c.loop-kind-test.false, count)) c.loop-kind.invariant
