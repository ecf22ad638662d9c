-- `crate::check::pressed_ok` meets its contract: each way out by the test that it ends in.
-- Assumes nothing.
use Rattle.questions.proofs.check.Records.{pressed_extended, pressed_end}
use borrow.Author.Rules.{rules}
use Rattle.questions.proofs.check.pressed_ok.Statement.{statement}
use Rattle.questions.proofs.check.pressed_ok.Tie as tie

shared-slice-read-if1 : tie.Need-bounds-s-3
shared-slice-read-if1 c = search rules

returns : tie.Need-returns-then-s-gt1
returns c = pressed_extended _ c.if-s-gt1.true

shared-slice-read-result : tie.Need-bounds-s-4
shared-slice-read-result c = search rules

returns-2 : tie.Need-returns
returns-2 c = pressed_end _ c.if-s-gt1.false

pub pressed_ok_spec : {M : Type 1} → statement M
pressed_ok_spec =
    tie.close (tie.spec
    shared-slice-read-if1
    returns
    shared-slice-read-result
    returns-2)
