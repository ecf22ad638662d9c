-- `crate::check::first_open` meets its contract: each way out by the test that it ends in.
-- Assumes nothing.
use Rattle.questions.proofs.check.Order.{first_none, first_some}
use borrow.Author.Rules.{rules}
use Rattle.questions.proofs.check.first_open.Statement.{statement}
use Rattle.questions.proofs.check.first_open.Tie as tie

returns : tie.Need-returns-then-n-eq0
returns c = first_none _ _ _ c.if-n-eq0.true

shared-slice-read-result : tie.Need-bounds-s-2
shared-slice-read-result c = search rules

returns-2 : tie.Need-returns
returns-2 c = first_some _ _ _ c.if-n-eq0.false

pub first_open_spec : {M : Type 1} → statement M
first_open_spec = tie.close (tie.spec
    returns
    shared-slice-read-result
    returns-2)
