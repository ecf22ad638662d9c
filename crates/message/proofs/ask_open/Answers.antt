-- The first question failed is that of the callee that failed it; where none is, all are passed.
-- Assumes nothing.
use Rattle.std.proofs.Common.{sym, ◌∙◌}
use Rattle.std.proofs.lemmas.Result.{err_from_is_err_and}
use Rattle.session.specs.Given.{brought}
use Rattle.message.specs.Calls.{inputs}
use Rattle.questions.specs.Asked.{as_no}
use Rattle.message.proofs.Asked.{first-early, first-late, asked_area, asked_by}
use Rattle.message.proofs.ask_open.Goals as goal

pub returns-in_err-keyboard-clause-refusal : goal.returns-in_err-keyboard-clause-refusal
unfolding as_no
returns-in_err-keyboard-clause-refusal c =
    let a = c.args in
    let p = err_from_is_err_and c.from_residual.result c.from_residual.ensures.1 in
    rw (p.1, p.2) (first-early a.session.now a.answers.now (brought (inputs a.state.now a.block.now a.table.now) a.message) c.in_err-keyboard.ensures.refusal)

pub ask_message-requires : goal.ask_message-requires
unfolding as_no
ask_message-requires c = asked_area _ _ _ _ _ c.in_ok-keyboard.ensures.refusal

pub returns-in_err-ask_message-clause-refusal : goal.returns-in_err-ask_message-clause-refusal
unfolding as_no
returns-in_err-ask_message-clause-refusal c =
    let a = c.args in
    let lent = c.in_ok-keyboard.ensures.checked in
    let p = err_from_is_err_and c.from_residual-in_err-ask_message.result c.from_residual-in_err-ask_message.ensures.1 in
    rw (p.1, p.2)
    (c.in_err-ask_message.ensures ∙ asked_by a.session.now a.answers.now a.state.now a.block.now a.table.now a.message (c.sort_of-sort.ensures, lent.0, lent.1)
    ∙ sym (first-late a.session.now a.answers.now (brought (inputs a.state.now a.block.now a.table.now) a.message) c.in_ok-keyboard.ensures.refusal))

pub returns-clause-refusal : goal.returns-clause-refusal
unfolding as_no
returns-clause-refusal c =
    let a = c.args in
    let lent = c.in_ok-keyboard.ensures.checked in
    c.in_ok-ask_message.ensures ∙ asked_by a.session.now a.answers.now a.state.now a.block.now a.table.now a.message (c.sort_of-sort.ensures, lent.0, lent.1)
    ∙ sym (first-late a.session.now a.answers.now (brought (inputs a.state.now a.block.now a.table.now) a.message) c.in_ok-keyboard.ensures.refusal)
