-- `queue::held_event::put_kept_key` meets its contract.
-- Assumes nothing.
use mathlib.Core.Path.{refl, ap}
use native.Mathlib.Omega.{arith}
use borrow.Author.Rules.{rules}
use Rattle.session.specs.Area.{full_key}
use Rattle.session.specs.Limits.{TEXT_MOST}
use Rattle.queue.proofs.Standing.{stands-first, stands-later}
use Rattle.queue.proofs.held_event.Press.{key_in, key-ok}
use Rattle.queue.proofs.held_event.EventParts.{stands_as}
use Rattle.queue.proofs.held_event.put_kept_key.Statement.{statement}
use Rattle.queue.proofs.held_event.put_kept_key.Tie as tie

add-copy-key : tie.Need-overflow_add-copy_key
add-copy-key c = search rules

copy-key-requires : tie.Need-copy_key-requires
copy-key-requires c κs =
    (search rules, key-ok c.args.session.now c.requires.ok, search rules)

same_length : tie.Need-shape_of-session-then-place-eq0
same_length c = search rules

same-length-2 : tie.Need-shape_of-answers-then-place-eq0
same-length-2 c = search rules

returns : tie.Need-returns-then-place-eq0
returns c =
    stands_as _ 6 (ap (full_key TEXT_MOST).put (key_in c.args.session.now))
    (stands-first _ 6 _ _ _ c.if-place-eq0.true c.copy_key.ensures refl)

event-at-requires : tie.Need-event_at-requires
event-at-requires c κs = search rules

add-gap : tie.Need-overflow_add-gap
add-gap c = search rules

sub-gap : tie.Need-overflow_sub-gap
sub-gap c = search rules

move-key-requires : tie.Need-move_key-requires
move-key-requires c κs =
    (search rules, key-ok c.args.session.now c.requires.ok)

same-length-3 : tie.Need-shape_of-session
same-length-3 c = search rules

returns-2 : tie.Need-returns
returns-2 c =
    stands_as _ 6 (ap (full_key TEXT_MOST).put (key_in c.args.session.now))
    (stands-later _ 6 _ _ _ (λ i. omega (arith, c.if-place-eq0.false)) c.move_key.ensures (omega arith))

pub put_kept_key_spec : {M : Type 1} → statement M
put_kept_key_spec =
    tie.close
    (tie.spec
    add-copy-key
    copy-key-requires
    same_length
    same-length-2
    returns
    event-at-requires
    add-gap
    sub-gap
    move-key-requires
    same-length-3
    returns-2)
