use Rattle.std.proofs.Common.{rules}
use Rattle.questions.proofs.check.Entries.{all_stop, all_next, all_end}
use Rattle.questions.proofs.check.entries_ok.Goals as goal

pub returns-then-not-entry_ok : goal.returns-then-not-entry_ok
returns-then-not-entry_ok c = all_stop _ _ _ c.loop-i.invariant c.loop-i-test.true c.entry_ok.ensures (search rules)

pub loop-i-preserved : goal.loop-i-preserved
loop-i-preserved c = all_next _ _ _ c.loop-i.invariant c.loop-i-test.true c.entry_ok.ensures (search rules)

pub returns : goal.returns
returns c = all_end _ _ _ c.loop-i.invariant c.loop-i-test.false
