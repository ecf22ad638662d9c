use Rattle.std.proofs.Common.{◌≡◌, drop}
use Rattle.trace.specs.Form.{digits_from}
use Rattle.trace.proofs.form.digits_from.Given as goal

abbrev pub invariant-loop-at : goal.invariant-loop-at
invariant-loop-at l = digits_from l.top l.v l.at (drop l.at l.x) ≡ digits_from l.top 0 l.from (drop l.from l.x)
