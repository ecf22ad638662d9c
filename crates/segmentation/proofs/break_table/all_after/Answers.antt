-- Assumes nothing.
use Rattle.std.proofs.Common.{arith}
use Rattle.area.proofs.Walk.{walk_turn, walk_end}
use Rattle.segmentation.specs.Layout.{after_last, first_at}
use Rattle.segmentation.proofs.break_table.Check.{second_start, after-bit}
use Rattle.segmentation.proofs.break_table.all_after.Goals as goal

pub loop-i-init : goal.loop-i-init
loop-i-init c = second_start c.args.table.now c.args.n

pub loop-i-preserved : goal.loop-i-preserved
unfolding first_at
loop-i-preserved c =
    let x = c.args.table.now in
    let e = after-bit x c.loop-i.i c.args.n _ _ c.requires.0 (omega arith) c.get_u32-last.ensures c.get_u32-first.ensures in
    walk_turn (after_last x) c.args.n c.loop-i.ok _ c.loop-i.i c.loop-i-test.true e c.loop-i.invariant

pub returns : goal.returns
returns c = walk_end _ _ _ _ c.loop-i-test.false c.loop-i.invariant
