use Rattle.std.proofs.Common.{◌≡◌, ◌<◌, length, arith, length-drop}
use mathlib.Core.Path.{refl, ◌∙◌, sym}
use Rattle.area.proofs.Splice.{part_rest}
use Rattle.session.specs.Area.{decode}
use Rattle.queue.proofs.pending.EntryLoops.{within, sought_at, sought_next}
use Rattle.queue.proofs.pending.find.Goals as goal

pub slice_bounds-token_at-count : goal.slice_bounds-token_at-count
slice_bounds-token_at-count c = omega (arith, within _ (λ k. omega (arith, c.type_inv.session k)) c.requires c.loop-i.i (omega arith))

pub slice_bounds-token_at-start : goal.slice_bounds-token_at-start
slice_bounds-token_at-start c = omega (arith, within _ (λ k. omega (arith, c.type_inv.session k)) c.requires c.loop-i.i (omega arith))

pub token_at-carried-requires : goal.token_at-carried-requires
token_at-carried-requires c =
    rw (part_rest, length-drop) (omega (arith, within _ (λ k. omega (arith, c.type_inv.session k)) c.requires c.loop-i.i (omega arith)))

pub returns-then-carried-token-clause-found : goal.returns-then-carried-token-clause-found
returns-then-carried-token-clause-found c place e =
    let here : c.loop-i.i ≡ place = cc in
    let h : c.loop-i.i < length (decode c.args.session.now).entries = omega arith in
    record {
      area = c.requires;
      found = sym here ∙ sought_at _ _ _ c.loop-i.invariant h c.token_at-carried.ensures refl c.if-carried-token.true;
      within = omega arith;
    }

pub loop-i-preserved : goal.loop-i-preserved
loop-i-preserved c = sought_next _ _ _ c.loop-i.invariant (omega arith) c.token_at-carried.ensures refl c.if-carried-token.false
