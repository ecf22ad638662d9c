-- Assumes nothing.
use Rattle.area.proofs.Walk.{walk_start, walk_turn, walk_end}
use Rattle.segmentation.specs.Layout.{ends_at, first_at}
use Rattle.segmentation.proofs.break_table.Check.{ends_bit}
use Rattle.segmentation.proofs.break_table.all_ends.Goals as goal

pub loop-i-init : goal.loop-i-init
loop-i-init c = walk_start (ends_at c.args.table.now) c.args.n

pub loop-i-preserved : goal.loop-i-preserved
unfolding first_at
loop-i-preserved c =
    let x = c.args.table.now in
    let e = ends_bit x c.loop-i.i c.args.n c.requires.0 _ _ _ c.get_u32-first.ensures c.get_u32-last.ensures c.ends_ok-ok.ensures in
    walk_turn (ends_at x) c.args.n c.loop-i.ok _ c.loop-i.i c.loop-i-test.true e c.loop-i.invariant

pub returns : goal.returns
returns c = walk_end _ _ _ _ c.loop-i-test.false c.loop-i.invariant
