-- One event more in each turn; all of them behind the last.
-- Assumes nothing.
use Rattle.std.proofs.Common.{◌≡◌, length, arith}
use Rattle.session.specs.InBlock.{event_in}
use Rattle.event.proofs.focus.Events.{Noted}
use Rattle.event.proofs.focus.Keyboard.{keyboard_at_ok}
use Rattle.message.proofs.opening.FocusAnswers.{handed_none, handed-next, handed_all}
use Rattle.message.proofs.opening.hand_out_focus.Goals as goal

pub loop-i-init : goal.loop-i-init
loop-i-init c = let a = c.args in handed_none a.keyboard.layout.bytes.now a.keyboard.state.now a.st c.as_slice-keys.result.now a.answers.now

pub loop-i-preserved : goal.loop-i-preserved
loop-i-preserved c =
    let a = c.args in
    let layout = a.keyboard.layout in
    let state = a.keyboard.state in
    let ok = keyboard_at_ok layout.bytes.now state.now layout.bytewise layout.whole in
    handed-next layout.bytes.now state.now a.st ok c.as_slice-keys.result.now c.loop-i.i (event_in layout.bytes.now c.synthetic_event-event.result) a.answers.now
    (omega arith) c.synthetic_event-event.ensures.0 c.loop-i.invariant c.put_event_at.ensures

pub returns : goal.returns
returns c =
    let a = c.args in
    let layout = a.keyboard.layout in
    let state = a.keyboard.state in
    let keys = c.as_slice-keys.result.now in
    let ok = keyboard_at_ok layout.bytes.now state.now layout.bytewise layout.whole in
    let k : Noted layout.bytes.now state.now a.st keys = rw c.as_slice-keys.ensures.value c.focus_keys-written.ensures in
    let e : c.loop-i.i ≡ length keys = omega arith in
    handed_all layout.bytes.now state.now a.st ok keys a.answers.now k c.requires (rw e at c.loop-i.invariant) c.close.ensures
