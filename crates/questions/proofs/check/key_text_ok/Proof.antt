-- `crate::check::key_text_ok` meets its contract: a character, or any other key.
-- Assumes nothing.
use borrow.Author.Tests.{eq-eqb, ne_eqb}
use Rattle.session.specs.Area.{key_text_ok}
use Rattle.questions.proofs.check.key_text_ok.Statement.{statement}
use Rattle.questions.proofs.check.key_text_ok.Tie as tie

returns : tie.Need-returns-then-number-eq0
unfolding key_text_ok
returns c = rw (eq-eqb _ _ c.if-number-eq0.true)

returns-2 : tie.Need-returns-else-number-eq0
unfolding key_text_ok
returns-2 c = rw (ne_eqb _ _ c.if-number-eq0.false)

pub key_text_ok_spec : {M : Type 1} → statement M
key_text_ok_spec = tie.close (tie.spec
    returns
    returns-2)
