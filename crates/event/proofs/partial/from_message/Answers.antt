-- Assumes nothing.
use Rattle.std.proofs.Common.{◌≡◌, [], arith}
use Rattle.std.proofs.lemmas.Grind.{common_steps}
use Rattle.std.specs.Prelude.{Some}
use Rattle.keys.specs.Text.{full}
use Rattle.session.specs.Builder.{layout_key, forced_key, from_message}
use Rattle.session.specs.InBlock.{info_in}
use Rattle.event.specs.Written.{keyboard_at}
use Rattle.event.proofs.partial.Info.{forced_stands}
use Rattle.event.proofs.partial.from_message.Goals as goal

pub returns-in-Some : goal.returns-in-Some
unfolding info_in from_message forced_key
returns-in-Some c =
    let board = keyboard_at c.args.keyboard.state.now c.args.keyboard.layout.bytes.now in
    let scancode = c.message_scancode-scancode.result in
    let key = full c.in-Some.key [] in
    let forced : forced_key board scancode ≡ Some key = grind (arith, common_steps) in
    let s = forced_stands board scancode key forced in
    (grind (arith, common_steps), record { logical_key = s.1; key_without_modifiers = s.1 })

pub returns : goal.returns
unfolding info_in from_message forced_key layout_key
returns c =
    let logical = c.layout_key-logical_key.ensures in
    let plain = c.plain_key-key_without_modifiers.ensures in
    (grind (arith, common_steps, plain.0 c.args.keyboard.state.now), record { logical_key = logical.1; key_without_modifiers = plain.1 })
