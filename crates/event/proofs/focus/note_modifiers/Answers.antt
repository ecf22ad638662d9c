-- Assumes nothing.
use Rattle.std.proofs.Common.{◌≡◌, ◌++◌, ◌∙◌, ap, take, arith}
use Rattle.session.specs.Focus.{modifier_keys}
use Rattle.event.specs.Written.{keyboard_at, written_of}
use Rattle.event.proofs.focus.Keys.{none_written, noted, noted_most, six_more, six_first, six_all, six_count}
use Rattle.event.proofs.focus.note_modifiers.Goals as goal

pub loop-vk-init : goal.loop-vk-init
loop-vk-init c = none_written _ _

pub note-requires : goal.note-requires
note-requires c =
    let i = c.loop-vk.vk-index in
    let b = keyboard_at c.args.keyboard.state.now c.args.keyboard.layout.bytes.now in
    omega (arith, noted_most b c.args.keys.now.items (take i modifier_keys) c.loop-vk.invariant, six_first i (omega arith))

pub loop-vk-preserved : goal.loop-vk-preserved
loop-vk-preserved c =
    let i = c.loop-vk.vk-index in
    noted _ c.args.keys.now.items (take i modifier_keys) _ c.loop-vk.invariant c.note.ensures.0 (six_more i (omega arith))

pub returns : goal.returns
returns c =
    let b = keyboard_at c.args.keyboard.state.now c.args.keyboard.layout.bytes.now in
    let all : c.loop-vk.keys.items ≡ c.args.keys.now.items ++ written_of b modifier_keys =
    c.loop-vk.invariant ∙ ap (λ x. c.args.keys.now.items ++ written_of b x) (six_all c.loop-vk.vk-index (omega arith) (omega arith)) in
    (all, omega (arith, noted_most b c.args.keys.now.items modifier_keys all, six_count))
