-- An open that is refused changes nothing; one that passes leaves what its message opens.
-- Assumes nothing.
use Rattle.std.proofs.Common.{sym, arith}
use Rattle.questions.specs.Asked.{as_no}
use Rattle.message.proofs.Asked.{open_counts}
use Rattle.message.proofs.CallAnswers.{open_refused, open_passed}
use Rattle.message.proofs.open.Goals as goal

pub returns-in-Err : goal.returns-in-Err
unfolding as_no
returns-in-Err c = open_refused _ _ _ _ _ _ _ _ c.in-Err.ensures.refusal

pub header_at-h-requires : goal.header_at-h-requires
unfolding as_no
header_at-h-requires c =
    let e = c.in-Ok.ensures in
    let p = open_counts _ _ _ _ _ _ e.passed e.refusal in
    omega (arith, p.0.size)

pub open_by-token-requires : goal.open_by-token-requires
unfolding as_no
open_by-token-requires c =
    let e = c.in-Ok.ensures in
    open_counts _ _ _ _ _ _ e.passed e.refusal

pub returns-in-Ok : goal.returns-in-Ok
unfolding as_no
returns-in-Ok c =
    let e = c.in-Ok.ensures in
    open_passed _ _ _ _ _ _ _ e.passed e.refusal (c.result_after-after.ensures _ (sym c.header_at-h.ensures.1)) c.open_by-token.ensures
