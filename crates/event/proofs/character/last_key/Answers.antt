-- Assumes nothing.
use Rattle.std.proofs.Common.{◌≡◌, length, arith}
use Rattle.std.proofs.lemmas.Grind.{common_steps}
use Rattle.segmentation.specs.Layout.{table_of}
use Rattle.session.specs.Area.{bytes_of}
use Rattle.session.specs.Builder.{several_text}
use Rattle.session.specs.InBlock.{last_key}
use Rattle.event.proofs.character.Completed.{length_of, asked, without, stays, becomes}
use Rattle.event.proofs.character.last_key.Goals as goal

pub returns-then-not-mark : goal.returns-then-not-mark
unfolding last_key
returns-then-not-mark c = λ t f p n. grind (arith, common_steps)

pub returns-then-n-eq0 : goal.returns-then-n-eq0
returns-then-n-eq0 c = λ t f p n.
    let several = several_text (table_of c.args.table.bytes.now) t in
    let none : length (bytes_of t) ≡ 0 = omega (arith, length_of c.args.field.now t f p) in
    grind (arith, common_steps, without several n t f none)

pub returns-then-several : goal.returns-then-several
returns-then-several c = λ t f p n.
    let some : length (bytes_of t) ≡ 0 → ⊥ = λ z. omega (arith, length_of c.args.field.now t f p) in
    grind (arith, common_steps, asked (table_of c.args.table.bytes.now) c.args.field.now t f p some, stays n t some)

pub returns : goal.returns
returns c = λ t f p n.
    let some : length (bytes_of t) ≡ 0 → ⊥ = λ z. omega (arith, length_of c.args.field.now t f p) in
    grind (arith, common_steps, asked (table_of c.args.table.bytes.now) c.args.field.now t f p some, becomes n t some)
