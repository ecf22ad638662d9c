-- Assumes nothing.
use Rattle.std.proofs.Common.{◌≡◌, List, ℕ, length, ap, arith}
use Rattle.std.proofs.lemmas.Grind.{common_steps}
use Rattle.std.specs.Prelude.{Option}
use Rattle.keys.specs.Text.{to_text, text_from}
use Rattle.lookup.specs.Layout.{part_of, key_in}
use Rattle.session.specs.Area.{bytes_of}
use Rattle.session.specs.Builder.{layout_key, control_counts, last_text}
use Rattle.session.specs.InBlock.{last_in}
use Rattle.event.proofs.character.Given.{text-within}
use Rattle.event.proofs.character.last_text.Goals as goal

pub returns-then-control_counts : goal.returns-then-control_counts
unfolding last_in last_text control_counts layout_key
returns-then-control_counts c =
    let block = c.args.keyboard.layout.bytes.now in
    let k = c.layout_key-k.result in
    let text : text_from (part_of block k) c.to_text-text.result ≡ to_text (key_in block k) = c.to_text-text.ensures (part_of block k) in
    (λ h v s. grind (arith, common_steps, text), omega (arith, ap (λ (o : Option (List ℕ)). length (bytes_of o)) text, text-within (key_in block k) c.layout_key-k.ensures.1))

pub returns : goal.returns
unfolding last_in last_text control_counts
returns c = (λ h v s. grind (arith, common_steps), tt)
