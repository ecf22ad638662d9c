use Rattle.std.proofs.Common.{◌≡◌, ◌+◌, ◌≤◌, length}
use Rattle.trace.specs.Numeral.{numeral}
use Rattle.trace.proofs.numeral.width_of.Given as goal

abbrev pub invariant-loop-rest : goal.invariant-loop-rest
invariant-loop-rest l = (1 ≤ l.k) × (l.k + l.rest ≤ l.v + 1) × (length (numeral l.base l.v) + 1 ≡ l.k + length (numeral l.base l.rest))

abbrev pub decreases-loop-rest : goal.decreases-loop-rest
decreases-loop-rest l = l.rest
