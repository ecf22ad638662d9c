use Rattle.std.proofs.Common.{arith}
use Rattle.questions.specs.Sorts.{as_sort}
use Rattle.questions.proofs.AsksBySort.{all_focus}
use Rattle.questions.proofs.new_entries.Goals as goal

pub returns-in-Focus-2 : goal.returns-in-Focus-2
unfolding as_sort
returns-in-Focus-2 c = rw c.in-Focus-2.is (all_focus _ _ _ _ (λ z. omega arith) c.focus_count.ensures)
