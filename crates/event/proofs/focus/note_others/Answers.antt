-- Assumes nothing.
use Rattle.std.proofs.Common.{◌≡◌, ◌∙◌, ◌∷◌, [], ◌++◌, ℕ, ap, arith}
use Rattle.session.specs.Focus.{others_from}
use Rattle.session.specs.Limits.{KEYS}
use Rattle.event.specs.Written.{keyboard_at, written_of}
use Rattle.event.proofs.focus.Keys.{none_written, noted, noted_most, one_other, no_other, others-left, others_count}
use Rattle.event.proofs.focus.note_others.Goals as goal
use Rattle.event.proofs.focus.note_others.Goals.{then-is_other, else-is_other}

pub loop-vk-init : goal.loop-vk-init
unfolding others_from
loop-vk-init c = none_written _ _

pub note-requires : goal.note-requires
note-requires c =
    let vk = c.loop-vk.vk in
    let b = keyboard_at c.args.keyboard.state.now c.args.keyboard.layout.bytes.now in
    omega (arith, noted_most b c.args.keys.now.items (others_from vk 0) c.loop-vk.invariant, others-left vk (omega arith) cc)

pub loop-vk-preserved : goal.loop-vk-preserved
loop-vk-preserved c =
    let vk = c.loop-vk.vk in
    let b = keyboard_at c.args.keyboard.state.now c.args.keyboard.layout.bytes.now in
    elim c.if-is_other.branch [
      | then-is_other w ↦
          noted b c.args.keys.now.items (others_from vk 0) (vk ∷ []) c.loop-vk.invariant (ap (λ k. k.items) w.keys-is ∙ w.note.ensures.0) (one_other vk cc)
      | else-is_other w ↦ let e = no_other vk cc in cc
    ]

pub returns : goal.returns
returns c =
    let b = keyboard_at c.args.keyboard.state.now c.args.keyboard.layout.bytes.now in
    let end : c.loop-vk.vk ≡ KEYS = omega arith in
    let all : c.loop-vk.keys.items ≡ c.args.keys.now.items ++ written_of b (others_from KEYS 0) =
    c.loop-vk.invariant ∙ ap (λ (n : ℕ). c.args.keys.now.items ++ written_of b (others_from n 0)) end in
    (all, omega (arith, noted_most b c.args.keys.now.items (others_from KEYS 0) all, others_count))
