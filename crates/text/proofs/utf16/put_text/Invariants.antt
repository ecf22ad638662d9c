-- What is made, and that the rest of the text is that of the units from i on.
-- Assumes nothing.
use Rattle.std.proofs.Common.{◌-◌, drop}
use Rattle.text.specs.Placed.{units_at}
use Rattle.text.proofs.Made.{Made}
use Rattle.text.proofs.utf16.put_text.Given as goal

abbrev pub invariant-loop-i : goal.invariant-loop-i
invariant-loop-i l = Made (units_at l.n (drop l.from l.src)) l.n l.at l.initial.dst l.dst l.to l.i

abbrev pub decreases-loop-i : goal.decreases-loop-i
decreases-loop-i l = l.n - l.i
