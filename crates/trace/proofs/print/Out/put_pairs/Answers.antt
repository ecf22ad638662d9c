use Rattle.std.proofs.Common.{◌∙◌, refl, arith}
use Rattle.trace.proofs.print.Texts.{wrote_none, wrote-pair}
use Rattle.trace.specs.Lines.{pairs}
use Rattle.trace.proofs.print.Out.put_pairs.Goals as goal

pub loop-b-init : goal.loop-b-init
unfolding pairs
loop-b-init c = (wrote_none _ _, omega arith, refl)

pub loop-b-preserved : goal.loop-b-preserved
loop-b-preserved c =
    let w = c.put_byte.ensures.wrote in
    let v = c.put_byte-in-loop-b.ensures.wrote in (
      wrote-pair _ _ _ c.loop-b-test.true c.loop-b.invariant.0 (rw c.from.ensures at c.glyph_of.ensures) w (rw c.from-in-loop-b.ensures at c.glyph_of-in-loop-b.ensures) v,
      omega (arith, w.place, v.place),
      c.put_byte-in-loop-b.ensures.same_reference ∙ c.put_byte.ensures.same_reference ∙ c.loop-b.invariant.2,
    )
