-- A turn of the walk is one list.
-- Assumes nothing.
use Rattle.std.proofs.Common.{refl, sym, ◌∙◌, arith}
use Rattle.std.proofs.lemmas.Bool.{not-true, not-false}
use Rattle.area.proofs.Walk.{every-next, every_stop}
use Rattle.lookup.specs.Block.{start_of}
use Rattle.lookup.proofs.block.Lists.{ListRead, one_is, one_room, start_step, lists_end, lists_stop}
use Rattle.lookup.proofs.block.lists_ok.Goals as goal

pub loop-j-init : goal.loop-j-init
unfolding start_of
loop-j-init c = record { within = omega arith; place = refl; left = refl }

pub returns-then-ne : goal.returns-then-ne
returns-then-ne c =
    let s = c.loop-j in
    let r : ListRead c.args.block.now s.j s.at _ _ _ = record {
      within = s.invariant.within;
      place = s.invariant.place;
      count = c.get_u16-n.ensures;
      bytes = c.from-size.ensures ∙ c.get_u16.ensures;
      last = c.list_end.ensures;
    } in
    lists_stop _ _ s.invariant.left
    (every_stop _ _ _ c.loop-j-test.true (one_is _ _ _ _ _ _ r ∙ not-true _ (sym c.ne.ensures ∙ c.if-ne.true)))

pub loop-j-preserved : goal.loop-j-preserved
loop-j-preserved c =
    let s = c.loop-j in
    let r : ListRead c.args.block.now s.j s.at _ _ _ = record {
      within = s.invariant.within;
      place = s.invariant.place;
      count = c.get_u16-n.ensures;
      bytes = c.from-size.ensures ∙ c.get_u16.ensures;
      last = c.list_end.ensures;
    } in
    let same = not-false _ (sym c.ne.ensures ∙ c.if-ne.false) in
    record {
      within = one_room _ _ _ _ _ _ r same;
      place = start_step _ _ _ _ s.invariant.place r.bytes;
      left = s.invariant.left ∙ every-next _ _ _ c.loop-j-test.true (one_is _ _ _ _ _ _ r ∙ same);
    }

pub returns : goal.returns
returns c =
    let v = c.loop-j.invariant in lists_end _ _ _ c.loop-j-test.false (omega arith) v.place v.left
