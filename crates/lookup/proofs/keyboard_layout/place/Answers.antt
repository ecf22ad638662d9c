-- A turn of the walk is one entry.
-- Assumes nothing.
use Rattle.std.proofs.Common.{sym, ◌+◌, ◌-◌, ◌∙◌, arith}
use Rattle.lookup.proofs.block.Find.{standing, walk_hit, walk_next, place_end}
use Rattle.lookup.proofs.keyboard_layout.place.Goals as goal

pub get_u64-requires : goal.get_u64-requires
get_u64-requires c =
    let s = standing _ _ _ _ _ _ _ c.loop.invariant (c.args.n - (c.loop.counter + 1)) (omega arith) in omega arith

pub returns-then-get_u64-key : goal.returns-then-get_u64-key
returns-then-get_u64-key c =
    walk_hit _ _ _ _ _ _ _ c.loop.invariant (c.args.n - (c.loop.counter + 1)) (omega arith) _ c.get_u64.ensures c.if-get_u64-key.true

pub bounds-l-11 : goal.bounds-l-11
bounds-l-11 c =
    let s = standing _ _ _ _ _ _ _ c.loop.invariant (c.args.n - (c.loop.counter + 1)) (omega arith) in omega arith

pub loop-preserved : goal.loop-preserved
loop-preserved c =
    walk_next _ _ _ _ _ _ _ c.loop.invariant (c.args.n - (c.loop.counter + 1)) (omega arith) _ c.get_u64.ensures c.if-get_u64-key.false _ c.from.ensures

pub returns : goal.returns
returns c = sym (c.loop.invariant.same ∙ place_end _ _ _ _ (omega arith))
