-- Assumes nothing.
use Rattle.std.proofs.Common.{◌≡◌, List, ℕ, ◌≤◌, length, ap, zero-le, arith}
use Rattle.std.proofs.lemmas.Grind.{common_steps}
use Rattle.std.specs.Prelude.{Option}
use Rattle.keys.specs.Text.{FullKey, text_from}
use Rattle.lookup.specs.Layout.{part_of, key_in}
use Rattle.lookup.proofs.keyboard_layout.Sets.{caps_bits}
use Rattle.session.specs.Area.{bytes_of}
use Rattle.session.specs.Focus.{focus_key, focus_text, synthetic_event}
use Rattle.session.specs.InBlock.{plain_in, event_in}
use Rattle.session.specs.Limits.{TEXT_MOST}
use Rattle.session.specs.declared.ElementState.{ElementState}
use Rattle.session.specs.declared.ElementState.TheVariants.{Pressed, Released}
use Rattle.session.proofs.Ranges.{KeyFits}
use Rattle.event.proofs.character.Given.{text-within}
use Rattle.event.proofs.focus.synthetic_event.Goals as goal

focus-within : (st : ElementState) (k : FullKey) → KeyFits k → length (bytes_of (focus_text st k)) ≤ TEXT_MOST
unfolding focus_text
focus-within Pressed k h = text-within k h
focus-within Released k h = zero-le

pub returns : goal.returns
unfolding event_in plain_in synthetic_event focus_key
returns c =
    let block = c.args.keyboard.layout.bytes.now in
    let k = c.layout_key-logical_key.result in
    let text : text_from (part_of block k) c.focus_text-text.result ≡ focus_text c.args.st (key_in block k) = c.focus_text-text.ensures (part_of block k) in
    let plain = c.plain_key-key_without_modifiers.ensures in (
      grind (arith, common_steps, text, plain.0 c.args.keyboard.state.now, caps_bits c.caps_lock_on.result),
      record {
        logical_key = c.layout_key-logical_key.ensures.1;
        text = omega (arith, ap (λ (o : Option (List ℕ)). length (bytes_of o)) text, focus-within c.args.st (key_in block k) c.layout_key-logical_key.ensures.1);
        key_without_modifiers = plain.1;
      },
    )
