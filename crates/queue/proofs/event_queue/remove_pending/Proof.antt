-- `queue::event_queue::remove_pending` meets its contract.
-- Assumes nothing.
use Rattle.std.specs.Prelude.{None}
use mathlib.Core.Path.{refl}
use Prim.Native.Nat.{ℕ, ◌<◌}
use native.Mathlib.Omega.{arith}
use borrow.Author.Rules.{rules}
use lib.ListN.{get_or}
use Rattle.queue.proofs.event_queue.Resolving.{rest_most, first_removed, later}
use Rattle.queue.proofs.event_queue.remove_pending.Statement.{statement}
use Rattle.queue.proofs.event_queue.remove_pending.Tie as tie

bytes : (c : tie.After-slice_known-1) (i : ℕ) → get_or c.args.session.now i 0 < 256
bytes c i = omega (arith, c.slice_known-1.given i)

drain-pending-requires : tie.Need-drain_pending-n-requires
drain-pending-requires c κs = search rules

close-requires : tie.Need-close-requires
close-requires c κs =
    let known = c.before.before.before.before.before.before.before in
    let a = c.args in
    (search rules, omega (arith, c.drain_pending-n.ensures.count, rest_most a.session.now (bytes known) a.token.0 a.place c.requires.0))

restart-requires : tie.Need-restart-requires
restart-requires c κs = search rules

same_length : tie.Need-shape_of-session-then-place-eq0
same_length c = search rules

same-length-2 : tie.Need-shape_of-answers-then-place-eq0
same-length-2 c = search rules

returns : tie.Need-returns-then-place-eq0
returns c =
    let known = c.before.before.before.before.before.before.before.before.before.before.before.before.before.before in
    let a = c.args in
    first_removed a.session.now (bytes known) a.token.0 a.place c.requires.0
    a.answers.now c.requires.1 c.if-place-eq0.true
    c.drain_pending-n.ensures c.close.ensures c.restart.ensures refl refl

no-events-requires : tie.Need-no_events-requires
no-events-requires c κs = search rules

remove-requires : tie.Need-remove-requires
remove-requires c κs = search rules

same-length-3 : tie.Need-shape_of-session
same-length-3 c = search rules

same-length-4 : tie.Need-shape_of-answers
same-length-4 c = search rules

returns-2 : tie.Need-returns
returns-2 c =
    let known = c.before.before.before.before.before.before.before.before.before.before in
    let a = c.args in
    later a.session.now (bytes known) a.token.0 a.place c.requires.0
    None (λ i. omega (arith, c.if-place-eq0.false)) c.no_events.ensures c.remove.ensures

pub remove_pending_spec : {M : Type 1} → statement M
remove_pending_spec =
    tie.close
    (tie.spec
    drain-pending-requires
    close-requires
    restart-requires
    same_length
    same-length-2
    returns
    no-events-requires
    remove-requires
    same-length-3
    same-length-4
    returns-2)
