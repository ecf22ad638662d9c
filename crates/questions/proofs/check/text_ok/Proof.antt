-- `crate::check::text_ok` meets its contract: each way out by the test that it ends in.
-- Assumes nothing.
use native.Mathlib.Omega.{arith}
use borrow.Author.Tests.{not-true, not-false}
use Rattle.questions.proofs.check.Keys.{text_long, text_stray, text_end}
use borrow.Author.Rules.{rules}
use Rattle.questions.proofs.check.text_ok.Statement.{statement}
use Rattle.questions.proofs.check.text_ok.Tie as tie

shared-slice-read-n : tie.Need-bounds-s-0
shared-slice-read-n c = search rules

cast-n : tie.Need-overflow_cast-n
cast-n c = omega (arith, c.shared_slice_known-2-1.given 0)

returns : tie.Need-returns-then-most-n
returns c = text_long _ _ c.if-most-n.true

add-zero-part : tie.Need-overflow_add-n
add-zero-part c = search rules

add-zero-part-2 : tie.Need-overflow_add-most
add-zero-part-2 c = search rules

zero-part-requires : tie.Need-zero_part-requires
zero-part-requires c κs = search rules

returns-2 : tie.Need-returns-then-not-zero_part
returns-2 c =
    text_stray _ _ c.if-most-n.false c.requires _ c.zero_part.ensures (not-true _ c.if-not-zero_part.true-raw)

add-well-formed : tie.Need-overflow_add-n-2
add-well-formed c = search rules

sub-well-formed : tie.Need-slice_bounds-well_formed-count
sub-well-formed c = search rules

part-well-formed-start : tie.Need-slice_bounds-well_formed-start
part-well-formed-start c = search rules

part-well-formed-end : tie.Need-slice_bounds-well_formed-end
part-well-formed-end c = search rules

well-formed-requires : tie.Need-well_formed-requires
well-formed-requires c κs = search rules

returns-3 : tie.Need-returns
returns-3 c =
    text_end _ _ c.if-most-n.false c.requires _ c.zero_part.ensures (not-false _ c.if-not-zero_part.false-raw) _
    c.well_formed-2.ensures

pub text_ok_spec : {M : Type 1} → statement M
text_ok_spec =
    tie.close
    (tie.spec
    shared-slice-read-n
    cast-n
    returns
    add-zero-part
    add-zero-part-2
    zero-part-requires
    returns-2
    add-well-formed
    sub-well-formed
    part-well-formed-start
    part-well-formed-end
    well-formed-requires
    returns-3)
