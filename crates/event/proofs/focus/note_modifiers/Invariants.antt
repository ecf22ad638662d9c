-- Assumes nothing.
use Rattle.std.proofs.Common.{◌≡◌, ◌++◌, take}
use Rattle.session.specs.Focus.{modifier_keys}
use Rattle.event.specs.Written.{keyboard_at, written_of}
use Rattle.event.proofs.focus.note_modifiers.Given as goal

abbrev pub invariant-loop-vk : goal.invariant-loop-vk
invariant-loop-vk l =
    l.keys.items ≡ l.initial.keys.items ++ written_of (keyboard_at l.keyboard.state.now l.keyboard.layout.bytes.now) (take l.vk-index modifier_keys)
