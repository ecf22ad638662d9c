-- A turn of the walk is one entry.
-- Assumes nothing.
use Rattle.std.proofs.Common.{◌+◌, ◌-◌, sym, ◌∙◌, arith, length-take, length-drop}
use Rattle.lookup.specs.Block.{list_key_ok}
use Rattle.lookup.proofs.block.Lists.{turn_stop, wide, turn, turned_end, turned_stop}
use Rattle.lookup.proofs.block.list_end.Goals as goal

pub returns-in_err-len : goal.returns-in_err-len
returns-in_err-len c =
    let a = c.args in
    c.from_residual.ensures
    ∙ turned_stop (list_key_ok a.by_vkey) a.n _ _ _ c.loop.invariant.ok
    (turn_stop a.by_vkey a.block.now c.loop.at c.loop.lo c.loop.invariant.within (sym c.in_err-len.was ∙ c.entry_len.ensures) _ (a.n - (c.loop.counter + 1)) (omega arith))

pub get_u64-lo-requires : goal.get_u64-lo-requires
get_u64-lo-requires c =
    let a = c.args in
    let w = wide a.by_vkey a.block.now c.loop.at c.loop.lo c.loop.invariant.within c.in_ok-len.len c.in_ok-len.ensures in
    simp (length-take, length-drop) (omega arith)

pub overflow_add-lo : goal.overflow_add-lo
overflow_add-lo c =
    let a = c.args in
    let t = turn a.by_vkey a.block.now c.loop.at c.loop.lo c.loop.invariant.within c.in_ok-len.len c.in_ok-len.ensures (a.n - c.loop.counter) (a.n - (c.loop.counter + 1)) c.get_u64-lo.result (omega arith) c.get_u64-lo.ensures in
    omega (arith, t.low)

pub loop-preserved : goal.loop-preserved
loop-preserved c =
    let a = c.args in
    let t = turn a.by_vkey a.block.now c.loop.at c.loop.lo c.loop.invariant.within c.in_ok-len.len c.in_ok-len.ensures (a.n - c.loop.counter) (a.n - (c.loop.counter + 1)) c.get_u64-lo.result (omega arith) c.get_u64-lo.ensures in
    record {
      within = t.room;
      low = omega (arith, t.low);
      ok = c.loop.invariant.ok ∙ t.ok;
      used = c.loop.invariant.used ∙ t.used;
    }

pub returns : goal.returns
returns c =
    turned_end (list_key_ok c.args.by_vkey) _ _ c.args.start _ _ _ _ (omega arith) c.loop.invariant.ok c.loop.invariant.used
