-- One event more behind the last entry in each turn.
-- Assumes nothing.
use Rattle.std.proofs.Common.{◌≡◌, length, arith}
use Rattle.session.specs.InBlock.{event_in}
use Rattle.event.proofs.focus.Events.{Noted}
use Rattle.event.proofs.focus.Keyboard.{keyboard_at_ok}
use Rattle.message.proofs.opening.FocusAnswers.{event-fits}
use Rattle.message.proofs.opening.FocusQueued.{none_queued, next_room, next_queued, all_queued}
use Rattle.message.proofs.opening.queue_focus.Goals as goal

pub loop-i-init : goal.loop-i-init
loop-i-init c =
    let a = c.args in
    let layout = a.keyboard.layout in
    let state = a.keyboard.state in
    none_queued layout.bytes.now state.now a.st a.session.now (λ i. omega (arith, c.type_inv.session i)) c.requires.0 c.as_slice-keys.result.now

pub add_event-requires : goal.add_event-requires
add_event-requires c =
    let a = c.args in
    let layout = a.keyboard.layout in
    let state = a.keyboard.state in
    let keys = c.as_slice-keys.result.now in
    let ok = keyboard_at_ok layout.bytes.now state.now layout.bytewise layout.whole in
    let k : Noted layout.bytes.now state.now a.st keys = rw c.as_slice-keys.ensures.value c.focus_keys-written.ensures in
    let m = c.synthetic_event-event.ensures in (
      next_room layout.bytes.now state.now a.st a.session.now c.requires.1 c.requires.2 keys k c.loop-i.i c.loop-i-test.true c.loop-i.invariant,
      m.1,
      rw m.0 (event-fits layout.bytes.now state.now a.st ok _),
    )

pub loop-i-preserved : goal.loop-i-preserved
loop-i-preserved c =
    let a = c.args in
    let layout = a.keyboard.layout in
    let state = a.keyboard.state in
    let keys = c.as_slice-keys.result.now in
    let ok = keyboard_at_ok layout.bytes.now state.now layout.bytewise layout.whole in
    let k : Noted layout.bytes.now state.now a.st keys = rw c.as_slice-keys.ensures.value c.focus_keys-written.ensures in
    next_queued layout.bytes.now state.now a.st a.session.now c.requires.1 c.requires.2 keys k
    c.loop-i.i c.loop-i-test.true c.loop-i.invariant ok (event_in layout.bytes.now c.synthetic_event-event.result) c.synthetic_event-event.ensures.0 c.add_event.ensures

pub returns : goal.returns
returns c =
    let a = c.args in
    let layout = a.keyboard.layout in
    let state = a.keyboard.state in
    let keys = c.as_slice-keys.result.now in
    let k : Noted layout.bytes.now state.now a.st keys = rw c.as_slice-keys.ensures.value c.focus_keys-written.ensures in
    let e : c.loop-i.i ≡ length keys = omega arith in
    all_queued layout.bytes.now state.now a.st a.session.now keys k (rw e at c.loop-i.invariant)
