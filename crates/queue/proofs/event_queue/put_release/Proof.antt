-- `queue::event_queue::put_release` meets its contract.
-- Assumes nothing.
use mathlib.Core.Path.{refl}
use native.Mathlib.Omega.{arith}
use borrow.Author.Rules.{rules}
use Rattle.queue.proofs.Standing.{stands-first, stands-later}
use Rattle.queue.proofs.event_queue.put_release.Statement.{statement}
use Rattle.queue.proofs.event_queue.put_release.Tie as tie

mul_at : tie.Need-overflow_mul-at
mul_at c = search rules

add_at : tie.Need-overflow_add-at
add_at c = search rules

add-put-release-event : tie.Need-overflow_add-at-then-place-eq0
add-put-release-event c = search rules

put-release-event-requires : tie.Need-put_release_event-requires
put-release-event-requires c κs = search rules

same_length : tie.Need-shape_of-session-then-place-eq0
same_length c = search rules

same-length-2 : tie.Need-shape_of-answers-then-place-eq0
same-length-2 c = search rules

returns : tie.Need-returns-then-place-eq0
returns c =
    stands-first _ 0 _ _ _ c.if-place-eq0.true c.put_release_event.ensures refl

complete-release-requires : tie.Need-complete_release-requires
complete-release-requires c κs = search rules

same-length-3 : tie.Need-shape_of-session
same-length-3 c = search rules

returns-2 : tie.Need-returns
returns-2 c =
    stands-later _ 0 _ _ _ (λ i. omega (arith, c.if-place-eq0.false)) c.complete_release.ensures (omega arith)

pub put_release_spec : {M : Type 1} → statement M
put_release_spec =
    tie.close
    (tie.spec
    mul_at
    add_at
    add-put-release-event
    put-release-event-requires
    same_length
    same-length-2
    returns
    complete-release-requires
    same-length-3
    returns-2)
