-- Assumes nothing.
use Rattle.std.proofs.Common.{◌≡◌, ◌++◌}
use Rattle.session.specs.Focus.{others_from}
use Rattle.event.specs.Written.{keyboard_at, written_of}
use Rattle.event.proofs.focus.note_others.Given as goal

abbrev pub invariant-loop-vk : goal.invariant-loop-vk
invariant-loop-vk l =
    l.keys.items ≡ l.initial.keys.items ++ written_of (keyboard_at l.keyboard.state.now l.keyboard.layout.bytes.now) (others_from l.vk 0)
