-- The parts of the event, one behind the other: what is kept of the press, its text, its logical key, its code.
-- Assumes nothing.
use Rattle.std.proofs.Common.{ℕ, ◌<◌, sym, ◌∙◌, rules}
use lib.ListN.{get_or}
use Rattle.queue.specs.Completing.{held_in}
use Rattle.queue.proofs.held_event.Press.{scancode_in, vkey_in}
use Rattle.queue.proofs.held_event.EventParts.{after_rest, after-last-text, after-last-key}
use Rattle.event.proofs.focus.Keyboard.{keyboard_at_ok}
use Rattle.message.proofs.finishing.LastCharacter.{length_in, char-stands}
use Rattle.message.proofs.finishing.put_last.Goals as goal

pub put_last_text-requires : goal.put_last_text-requires
put_last_text-requires c =
    ((after_rest _ (λ i. search rules) c.requires c.put_rest.ensures).0, search rules, c.last_text-last.ensures.1)

pub last_key-key-requires : goal.last_key-key-requires
last_key-key-requires c =
    let a = c.args in
    let x = a.session.now in
    let p = c.requires in
    let b : (i : ℕ) → get_or x i 0 < 256 = λ i. search rules in
    let board = keyboard_at_ok _ a.keyboard.state.now a.keyboard.layout.bytewise a.keyboard.layout.whole in
    let says = c.last_text-last.ensures.0 (held_in x) (sym (c.get_u16-vkey.ensures ∙ vkey_in x)) (sym (c.get_u16-scancode.ensures ∙ scancode_in x)) in
    let q = (after-last-text _ b p c.put_rest.ensures _ _ c.last_text-last.ensures.1 c.put_last_text.ensures).0 in
    (q.session, q.answers, p.few, length_in _ _ _ b p board _ says c.last_text-last.ensures.1 c.put_rest.ensures c.put_last_text.ensures)

pub put_last_key-requires : goal.put_last_key-requires
put_last_key-requires c =
    let b : (i : ℕ) → get_or c.args.session.now i 0 < 256 = λ i. search rules in
    ((after-last-text _ b c.requires c.put_rest.ensures _ _ c.last_text-last.ensures.1 c.put_last_text.ensures).0, c.last_text-last.ensures.1)

pub put_last_code-requires : goal.put_last_code-requires
put_last_code-requires c =
    let b : (i : ℕ) → get_or c.args.session.now i 0 < 256 = λ i. search rules in
    (after-last-key _ b c.requires c.put_rest.ensures _ _ c.last_text-last.ensures.1 c.put_last_text.ensures _ c.put_last_key.ensures).0

pub returns : goal.returns
returns c =
    let a = c.args in
    let x = a.session.now in
    let b : (i : ℕ) → get_or x i 0 < 256 = λ i. search rules in
    let board = keyboard_at_ok _ a.keyboard.state.now a.keyboard.layout.bytewise a.keyboard.layout.whole in
    let says = c.last_text-last.ensures.0 (held_in x) (sym (c.get_u16-vkey.ensures ∙ vkey_in x)) (sym (c.get_u16-scancode.ensures ∙ scancode_in x)) in
    char-stands _ _ _ b c.requires board _ says c.last_text-last.ensures.1 c.put_rest.ensures c.put_last_text.ensures
    _ _ c.last_key-key.ensures c.put_last_key.ensures c.put_last_code.ensures
