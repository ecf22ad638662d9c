use Rattle.std.proofs.Common.{arith}
use mathlib.Core.Path.{refl}
use Rattle.queue.proofs.Standing.{stands-first, stands-later}
use Rattle.queue.proofs.held_event.write_field.Goals as goal

pub returns-then-place-eq0 : goal.returns-then-place-eq0
returns-then-place-eq0 g c b puts = stands-first _ _ _ _ _ c.if-place-eq0.true (puts _ _ _ c.write.ensures) refl

pub returns : goal.returns
returns g c b puts = stands-later _ _ _ _ _ c.if-place-eq0.false (puts _ _ _ c.write-2.ensures) (omega arith)
