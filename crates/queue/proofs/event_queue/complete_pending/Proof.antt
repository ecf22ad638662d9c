-- `queue::event_queue::complete_pending` meets its contract.
-- Assumes nothing.
use Rattle.std.specs.Prelude.{Some}
use mathlib.Core.Path.{◌≡◌, refl, ◌∙◌}
use Prim.Native.Nat.{ℕ, ◌<◌}
use native.Mathlib.Nat.{add-zero}
use native.Mathlib.Omega.{arith}
use borrow.Author.Rules.{rules}
use lib.ListN.{get_or}
use Rattle.queue.proofs.event_queue.Resolving.{rest_most, first_completed, later}
use Rattle.queue.proofs.event_queue.complete_pending.Statement.{statement}
use Rattle.queue.proofs.event_queue.complete_pending.Tie as tie

bytes : (c : tie.After-slice_known-1) (i : ℕ) → get_or c.args.session.now i 0 < 256
bytes c i = omega (arith, c.slice_known-1.given i)

drain-pending-requires : tie.Need-drain_pending-n-requires
drain-pending-requires c κs =
    let s = c.requires.4 c.if-place-eq0.true in (s.area, c.requires.1, omega (arith, s.within), omega arith)

close-requires : tie.Need-close-requires
close-requires c κs =
    let known = c.before.before.before.before.before.before.before in
    let s = c.requires.4 c.if-place-eq0.true in
    (search rules, omega (arith, c.drain_pending-n.ensures.count, rest_most _ (bytes known) _ _ s))

restart-requires : tie.Need-restart-requires
restart-requires c κs =
    (c.requires.4 c.if-place-eq0.true).area

same_length : tie.Need-shape_of-session-then-place-eq0
same_length c = search rules

same-length-2 : tie.Need-shape_of-answers-then-place-eq0
same-length-2 c = search rules

returns : tie.Need-returns-then-place-eq0
returns c x y e b stands fits size put =
    let p = c.if-place-eq0.true in
    first_completed x b _ _ stands e fits y size p (put.first p) c.drain_pending-n.ensures c.close.ensures c.restart.ensures refl refl

no-events-requires : tie.Need-no_events-requires
no-events-requires c κs = search rules

complete-requires : tie.Need-complete-requires
complete-requires c κs = search rules

same-length-3 : tie.Need-shape_of-session
same-length-3 c = search rules

same-length-4 : tie.Need-shape_of-answers
same-length-4 c = search rules

returns-2 : tie.Need-returns
returns-2 c x y e b stands fits size put =
    let later-one : (c.args.place ≡ 0) → ⊥ = λ i. omega (arith, c.if-place-eq0.false) in
    later x b _ _ stands (Some e) later-one c.no_events.ensures (c.complete.ensures x e b stands fits ((put.later later-one).0 ∙ rw add-zero refl))

pub complete_pending_spec : {M : Type 1} → statement M
complete_pending_spec =
    tie.close
    (tie.spec
    drain-pending-requires
    close-requires
    restart-requires
    same_length
    same-length-2
    returns
    no-events-requires
    complete-requires
    same-length-3
    same-length-4
    returns-2)
