-- `crate::check::order_ok` meets its contract: each way out by the test that it ends in.
-- Assumes nothing.
use borrow.Author.Tests.{not-true, not-false}
use Rattle.questions.proofs.check.Order.{no_rise, no_first, by_count}
use borrow.Author.Rules.{rules}
use Rattle.questions.proofs.check.order_ok.Statement.{statement}
use Rattle.questions.proofs.check.order_ok.Tie as tie

rising-ok-requires : tie.Need-rising_ok-requires
rising-ok-requires c κs = search rules

returns : tie.Need-returns-then-not-rising_ok
returns c = no_rise _ _ _ c.rising_ok.ensures (not-true _ c.if-not-rising_ok.true-raw)

first-open-requires : tie.Need-first_open-requires
first-open-requires c κs = search rules

returns-2 : tie.Need-returns-then-not-first_open
returns-2 c =
    no_first _ _ _ c.rising_ok.ensures (not-false _ c.if-not-rising_ok.false-raw) c.first_open.ensures (not-true _ c.if-not-first_open.true-raw)

open-count-requires : tie.Need-open_count-requires
open-count-requires c κs = search rules

returns-3 : tie.Need-returns
returns-3 c =
    by_count _ _ _ c.rising_ok.ensures (not-false _ c.if-not-rising_ok.false-raw) c.first_open.ensures (not-false _ c.if-not-first_open.false-raw)
    c.open_count.ensures

pub order_ok_spec : {M : Type 1} → statement M
order_ok_spec =
    tie.close
    (tie.spec
    rising-ok-requires
    returns
    first-open-requires
    returns-2
    open-count-requires
    returns-3)
