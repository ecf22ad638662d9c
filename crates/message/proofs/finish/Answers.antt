-- A finish that is refused changes nothing; one that passes leaves what its message comes to.
-- Assumes nothing.
use Rattle.std.proofs.Common.{sym, ◌∙◌}
use Rattle.std.proofs.lemmas.Result.{err_from_is_err_and}
use Rattle.session.specs.Given.{finished}
use Rattle.session.specs.Questions.{session_questions}
use Rattle.message.specs.Calls.{inputs}
use Rattle.questions.specs.Asked.{as_no}
use Rattle.message.proofs.Asked.{first-early, first-late, asked_area, asked_answers}
use Rattle.message.proofs.CallAnswers.{finish-refused, finish-passed}
use Rattle.message.proofs.finish.Goals as goal

pub returns-in_err-keyboard : goal.returns-in_err-keyboard
unfolding as_no
returns-in_err-keyboard c =
    let a = c.args in
    let p = err_from_is_err_and c.from_residual.result c.from_residual.ensures.1 in
    λ was. rw (p.1, p.2)
    (finish-refused _ _ _ _ _ was _ _ _ (first-early a.session.now a.answers.now (finished (inputs a.state.now a.block.now a.table.now) a.token.0 a.peeked) c.in_err-keyboard.ensures.refusal))

pub ask_finish-requires : goal.ask_finish-requires
unfolding as_no
ask_finish-requires c = asked_area _ _ _ _ _ c.in_ok-keyboard.ensures.refusal

pub returns-in_err-ask_finish : goal.returns-in_err-ask_finish
unfolding session_questions as_no
returns-in_err-ask_finish c =
    let a = c.args in
    let p = err_from_is_err_and c.from_residual-in_err-ask_finish.result c.from_residual-in_err-ask_finish.ensures.1 in
    λ was. rw (p.1, p.2)
    (finish-refused _ _ _ _ _ was _ _ _ (c.in_err-ask_finish.ensures
    ∙ sym (first-late a.session.now a.answers.now (finished (inputs a.state.now a.block.now a.table.now) a.token.0 a.peeked) c.in_ok-keyboard.ensures.refusal)))

pub finish_open-requires : goal.finish_open-requires
unfolding as_no
finish_open-requires c =
    let e = c.in_ok-keyboard.ensures.refusal in
    (asked_area _ _ _ _ _ e, asked_answers _ _ _ _ _ e)

pub returns : goal.returns
unfolding session_questions as_no
returns c =
    let a = c.args in
    λ was. finish-passed _ _ _ _ _ was _ _
    (c.in_ok-ask_finish.ensures
    ∙ sym (first-late a.session.now a.answers.now (finished (inputs a.state.now a.block.now a.table.now) a.token.0 a.peeked) c.in_ok-keyboard.ensures.refusal))
    c.in_ok-keyboard.ensures.checked c.seen-seen.ensures c.finish_open.ensures
