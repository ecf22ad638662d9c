-- Assumes nothing.
use Rattle.std.proofs.Common.{sym, ◌∙◌}
use Rattle.std.proofs.Math.Nat.{add-zero}
use Rattle.std.proofs.Math.Seq.{get_or-drop}
use borrow.Author.Tests.{ltb-true, ltb-false}
use Rattle.text.specs.Unicode.{utf8_of, utf8_step}
use Rattle.text.proofs.Utf8Read.{knows8}
use Rattle.text.proofs.Steps.{past_step, at8}
use Rattle.text.proofs.utf8.utf8_step.Goals as goal

pub returns-in_err-get : goal.returns-in_err-get
returns-in_err-get c =
    c.from_residual.ensures ∙ past_step _ _ utf8_of utf8_step knows8 (ltb-false _ _ (sym c.in_err-get.ensures.lookup.0))

pub returns : goal.returns
returns c =
    let a = c.args in
    let found = c.in_ok-get.ensures.lookup in
    let first = c.from-b.ensures ∙ found.3.1 0 ∙ sym (rw add-zero at (get_or-drop a.i a.t.now 0 0)) in
    at8 a.t.now a.i (ltb-true _ _ (sym found.0)) first c.byte_at.ensures.0 c.byte_at-2.ensures.0 c.byte_at-3.ensures.0 c.lead_of.ensures
    c.byte_step.ensures
