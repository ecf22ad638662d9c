-- std's copy within a list is a splice of the part that is read.
-- Assumes nothing.
use Rattle.std.proofs.Common.{◌≡◌, ◌+◌, ◌-◌, ◌∙◌, drop, arith}
use Rattle.std.proofs.Math.ListN.{length-drop}
use Rattle.area.proofs.Splice.{paste-splice}
use Rattle.area.proofs.span.move_down.Goals as goal

pub returns : goal.returns
returns c =
    let a = c.args in
    let e : a.to + a.gap + a.count - (a.to + a.gap) ≡ a.count = omega arith in
    rw e at c.copy_within.ensures.after
    ∙ paste-splice a.to a.count (drop (a.to + a.gap) a.s.now) a.s.now (simp length-drop (omega arith)) (omega arith)
