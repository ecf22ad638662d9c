-- A focus change on an empty queue, and behind its last entry.
-- Assumes nothing.
use Rattle.std.proofs.Common.{refl, rules}
use Rattle.message.proofs.opening.AnsweredWhole.{focus-out, focus_waits, some_entry}
use Rattle.message.proofs.opening.answer_focus.Goals as goal

pub returns-then-h-eq0 : goal.returns-then-h-eq0
returns-then-h-eq0 c =
    let k = c.args.keyboard in
    focus-out _ (λ i. search rules) c.requires.0 _ c.header_at-h.ensures.2 k.layout.bytes.now k.state.now c.args.st
    c.if-h-eq0.true c.hand_out_focus.ensures (refl, refl, refl)

pub queue_focus-requires : goal.queue_focus-requires
queue_focus-requires c =
    let p = c.requires in
    (p.0, some_entry _ (λ i. search rules) p.0 _ c.header_at-h.ensures.2 c.if-h-eq0.false, p.2)

pub returns : goal.returns
returns c =
    let k = c.args.keyboard in
    focus_waits _ (λ i. search rules) c.requires.0 _ c.header_at-h.ensures.2 k.layout.bytes.now k.state.now c.args.st
    c.if-h-eq0.false c.queue_focus.ensures c.no_events.ensures (refl, refl, refl)
