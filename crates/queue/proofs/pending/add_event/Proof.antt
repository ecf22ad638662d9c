-- `queue::pending::add_event` meets its contract.
-- Assumes nothing.
use mathlib.Core.Path.{ap, ◌∙◌}
use Prim.Native.Nat.{ℕ}
use native.Mathlib.Omega.{arith}
use borrow.Author.Rules.{rules}
use Rattle.area.specs.Splice.{splice}
use Rattle.session.specs.Area.{event}
use Rattle.session.specs.InBlock.{event_in}
use Rattle.queue.proofs.pending.add_event.Statement.{statement}
use Rattle.queue.proofs.pending.add_event.Tie as tie

header-at-requires : tie.Need-header_at-h-requires
header-at-requires c κs = search rules

next-event-requires : tie.Need-next_event-requires
next-event-requires c κs = search rules

put-event-requires : tie.Need-put_event-requires
put-event-requires c κs =
    let p = c.requires in
    (omega (arith, c.next_event.ensures, c.header_at-h.ensures.2, p.0.entry, p.0.area.size), p.1)

add-complete-requires : tie.Need-add_complete-requires
add-complete-requires c κs = search rules

same_length : tie.Need-shape_of-session
same_length c = search rules

returns : tie.Need-returns
returns c =
    let a = c.args in
    c.add_complete.ensures a.session.now _ (λ i. omega (arith, c.slice_known-1.given i)) c.requires.0 c.requires.2
    c.header_at-h.ensures.0 c.header_at-h.ensures.2
    (c.put_event.ensures ∙ ap (λ (k : ℕ). splice k (event.put (event_in a.block.now a.e)) a.session.now) c.next_event.ensures)

pub add_event_spec : {M : Type 1} → statement M
add_event_spec =
    tie.close
    (tie.spec
    header-at-requires
    next-event-requires
    put-event-requires
    add-complete-requires
    same_length
    returns)
