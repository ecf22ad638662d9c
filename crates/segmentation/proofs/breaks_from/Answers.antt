-- Assumes nothing.
use Rattle.std.proofs.Common.{sym, ◌∙◌, arith}
use Rattle.text.specs.Unicode.{utf8_of, utf8_step}
use Rattle.text.proofs.Utf8Read.{knows8}
use Rattle.text.proofs.Steps.{fits_at}
use Rattle.segmentation.proofs.Steps.{breaks_bad, breaks_yes, turn}
use Rattle.segmentation.proofs.breaks_from.Goals as goal

pub returns-then-breaks : goal.returns-then-breaks
returns-then-breaks c =
    breaks_yes _ _ _ _ (sym c.in-Some.ensures) _ c.props_at-p.ensures c.loop-scalar.behind _ c.breaks.ensures c.if-breaks.true
    ∙ sym c.loop-scalar.invariant

pub overflow_add-i : goal.overflow_add-i
overflow_add-i c = omega (arith, fits_at c.args.text.now c.loop-scalar.i utf8_of utf8_step knows8 _ _ (sym c.in-Some.ensures))

pub loop-scalar-smaller : goal.loop-scalar-smaller
loop-scalar-smaller c = omega (arith, fits_at c.args.text.now c.loop-scalar.i utf8_of utf8_step knows8 _ _ (sym c.in-Some.ensures))

pub loop-scalar-preserved : goal.loop-scalar-preserved
loop-scalar-preserved c =
    c.loop-scalar.invariant
    ∙ turn _ _ c.loop-scalar.i _ _ (sym c.in-Some.ensures) _ c.props_at-p.ensures c.loop-scalar.behind _ c.breaks.ensures
    c.if-breaks.false _ c.next-behind.ensures

pub returns : goal.returns
returns c = breaks_bad _ _ (sym c.in_default.ensures) c.loop-scalar.behind ∙ sym c.loop-scalar.invariant
