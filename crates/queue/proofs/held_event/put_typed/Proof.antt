-- `queue::held_event::put_typed` meets its contract.
-- Assumes nothing.
use mathlib.Core.Path.{refl, ap}
use mathlib.Core.List.{List}
use Prim.Native.Nat.{ℕ}
use native.Mathlib.Omega.{arith}
use borrow.Author.Rules.{rules}
use Rattle.session.specs.Area.{opt_text}
use Rattle.session.specs.Builder.{typed_text}
use Rattle.queue.proofs.Standing.{stands-first, stands-later}
use Rattle.queue.proofs.held_event.Press.{units_in, units-ok}
use Rattle.queue.proofs.held_event.EventParts.{stands_as}
use Rattle.queue.proofs.held_event.put_typed.Statement.{statement}
use Rattle.queue.proofs.held_event.put_typed.Tie as tie

add-put-typed : tie.Need-overflow_add-off
add-put-typed c = search rules

put-typed-requires : tie.Need-put_typed-requires
put-typed-requires c κs =
    (search rules, units-ok c.args.session.now c.requires.0.ok, search rules)

same_length : tie.Need-shape_of-session-then-place-eq0
same_length c = search rules

same-length-2 : tie.Need-shape_of-answers-then-place-eq0
same-length-2 c = search rules

returns : tie.Need-returns-then-place-eq0
returns c =
    stands_as _ _ (ap (λ (us : List ℕ). opt_text.put (typed_text us)) (units_in c.args.session.now))
    (stands-first _ _ _ _ _ c.if-place-eq0.true c.put_typed.ensures refl)

event-at-requires : tie.Need-event_at-requires
event-at-requires c κs = search rules

add-put-typed-within : tie.Need-overflow_add-event_at
add-put-typed-within c = search rules

put-typed-within-requires : tie.Need-put_typed_within-requires
put-typed-within-requires c κs =
    (search rules, units-ok c.args.session.now c.requires.0.ok, search rules)

same-length-3 : tie.Need-shape_of-session
same-length-3 c = search rules

returns-2 : tie.Need-returns
returns-2 c =
    stands_as _ _ (ap (λ (us : List ℕ). opt_text.put (typed_text us)) (units_in c.args.session.now))
    (stands-later _ _ _ _ _ (λ i. omega (arith, c.if-place-eq0.false)) c.put_typed_within.ensures (omega arith))

pub put_typed_spec : {M : Type 1} → statement M
put_typed_spec =
    tie.close
    (tie.spec
    add-put-typed
    put-typed-requires
    same_length
    same-length-2
    returns
    event-at-requires
    add-put-typed-within
    put-typed-within-requires
    same-length-3
    returns-2)
