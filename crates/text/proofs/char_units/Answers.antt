-- One law of `char_units` for each branch.
-- Assumes nothing.
use Rattle.std.proofs.Common.{sym, ◌%◌, arith}
use Rattle.text.specs.Stored.{two_units}
use Rattle.text.proofs.Utf16Form.{one_unit, two-units}
use Rattle.text.proofs.Scalar.{scalar_below}
use Rattle.text.proofs.Message.{surrogate_is, surrogate_not, units-surrogate, units_other, units-scalar, surrogate-whole}
use Rattle.text.proofs.char_units.Goals as goal

pub returns-then-wparam-eq27 : goal.returns-then-wparam-eq27
unfolding two_units
returns-then-wparam-eq27 c =
    let w = c.args.wparam in
    let h = surrogate_is w c.if-wparam-eq27.true in rw (units-surrogate w h, surrogate-whole w h)

pub returns-then-not-is_scalar : goal.returns-then-not-is_scalar
unfolding two_units
returns-then-not-is_scalar c =
    let w = c.args.wparam in
    rw (units_other w (surrogate_not w c.if-wparam-eq27.false) (sym c.if-not-is_scalar.ensures))

pub returns-then-c-lt65536 : goal.returns-then-c-lt65536
unfolding two_units
returns-then-c-lt65536 c =
    let w = c.args.wparam in
    rw (units-scalar w (surrogate_not w c.if-wparam-eq27.false) (sym c.if-not-is_scalar.ensures), one_unit (w % 0x100000000) (omega arith))

pub overflow_cast-result-2 : goal.overflow_cast-result-2
overflow_cast-result-2 c = omega (arith, scalar_below _ (sym c.if-not-is_scalar.ensures))

pub returns : goal.returns
unfolding two_units
returns c =
    let w = c.args.wparam in
    rw (units-scalar w (surrogate_not w c.if-wparam-eq27.false) (sym c.if-not-is_scalar.ensures), two-units (w % 0x100000000) (omega arith))
