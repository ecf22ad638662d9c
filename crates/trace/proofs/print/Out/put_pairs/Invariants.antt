use Rattle.std.proofs.Common.{◌≡◌, ◌+◌, take}
use Rattle.trace.specs.Wrote.{Wrote}
use Rattle.trace.specs.Lines.{pairs}
use Rattle.trace.proofs.print.Out.put_pairs.Given as goal

abbrev pub invariant-loop-b : goal.invariant-loop-b
invariant-loop-b l =
    Wrote l.initial.self.at (pairs (take l.b-index l.text)) l.initial.self.bytes.now l.self.bytes.now l.self.at
    × (l.self.at ≡ l.initial.self.at + l.b-index + l.b-index)
    × (l.self.bytes.ghost_name ≡ l.initial.self.bytes.ghost_name)
