-- `crate::check::marks_ok` meets its contract: each way out by the test that it ends in.
-- Assumes nothing.
use Rattle.questions.proofs.check.Records.{marks_location, marks_state, marks_repeat, marks_end}
use borrow.Author.Rules.{rules}
use Rattle.questions.proofs.check.marks_ok.Statement.{statement}
use Rattle.questions.proofs.check.marks_ok.Tie as tie

shared-slice-read-if1 : tie.Need-bounds-s-0
shared-slice-read-if1 c = search rules

returns : tie.Need-returns-then-s-gt3
returns c = marks_location _ c.if-s-gt3.true

shared-slice-read-if2 : tie.Need-bounds-s-1
shared-slice-read-if2 c = search rules

returns-2 : tie.Need-returns-then-s-gt1
returns-2 c = marks_state _ c.if-s-gt3.false c.if-s-gt1.true

shared-slice-read-if3 : tie.Need-bounds-s-2
shared-slice-read-if3 c = search rules

returns-3 : tie.Need-returns-then-s-gt1-2
returns-3 c = marks_repeat _ c.if-s-gt3.false c.if-s-gt1.false c.if-s-gt1-2.true

shared-slice-read-result : tie.Need-bounds-s-3
shared-slice-read-result c = search rules

returns-4 : tie.Need-returns
returns-4 c =
    marks_end _ c.if-s-gt3.false c.if-s-gt1.false c.if-s-gt1-2.false

pub marks_ok_spec : {M : Type 1} → statement M
marks_ok_spec =
    tie.close
    (tie.spec
    shared-slice-read-if1
    returns
    shared-slice-read-if2
    returns-2
    shared-slice-read-if3
    returns-3
    shared-slice-read-result
    returns-4)
