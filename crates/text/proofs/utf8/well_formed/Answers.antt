-- What a turn finds lies within the bytes, and the rest decides.
-- Assumes nothing.
use Rattle.std.proofs.Common.{sym, arith}
use Rattle.text.specs.Unicode.{utf8_of, utf8_step}
use Rattle.text.proofs.Utf8Read.{knows8}
use Rattle.text.proofs.Steps.{ascii, fits_at, well_next, well_bad, well_end}
use Rattle.text.proofs.utf8.well_formed.Goals as goal

pub returns-then-or_all-lt128 : goal.returns-then-or_all-lt128
returns-then-or_all-lt128 c = ascii 0 _ (rw (← c.or_all.ensures) c.if-or_all-lt128.true)

pub overflow_add-i : goal.overflow_add-i
overflow_add-i c = omega (arith, fits_at c.args.t.now c.loop-i.i utf8_of utf8_step knows8 _ _ (sym c.in-Some.ensures))

pub loop-i-smaller : goal.loop-i-smaller
loop-i-smaller c = omega (arith, fits_at c.args.t.now c.loop-i.i utf8_of utf8_step knows8 _ _ (sym c.in-Some.ensures))

pub loop-i-preserved : goal.loop-i-preserved
loop-i-preserved c =
    let e = sym c.in-Some.ensures in
    record {
      inside = (fits_at _ _ utf8_of utf8_step knows8 _ _ e).1;
      rest = well_next _ _ c.loop-i.invariant.rest _ _ e;
    }

pub returns-in_default : goal.returns-in_default
returns-in_default c = well_bad _ _ c.loop-i.invariant.rest c.loop-i-test.true (sym c.in_default.ensures)

pub returns : goal.returns
returns c = well_end _ _ c.loop-i.invariant.rest (omega arith)
