use Rattle.std.proofs.Common.{◌≡◌, ◌≤◌, length}
use Rattle.area.specs.Splice.{splice}
use Rattle.trace.specs.Numeral.{numeral}
use Rattle.trace.proofs.numeral.put_digits.Given as goal

abbrev pub invariant-loop-rest : goal.invariant-loop-rest
invariant-loop-rest l =
    (l.i ≡ length (numeral l.base l.rest))
    × (l.i ≤ l.k)
    × (splice l.at (numeral l.base l.rest) l.out ≡ splice l.at (numeral l.base l.v) l.initial.out)

abbrev pub decreases-loop-rest : goal.decreases-loop-rest
decreases-loop-rest l = l.rest
