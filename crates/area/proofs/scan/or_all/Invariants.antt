-- What is gathered so far, with the rest, gives the whole.
-- Assumes nothing.
use Rattle.std.proofs.Common.{◌≡◌, drop}
use Rattle.area.specs.Zero.{or_rest}
use Rattle.area.proofs.scan.or_all.Given as goal

abbrev pub invariant-loop-x : goal.invariant-loop-x
invariant-loop-x l = or_rest l.acc (drop l.x-index l.t) ≡ or_rest 0 l.t
