-- The text is read where it stands: in the answer area, or in its entry.
-- Assumes nothing.
use Rattle.std.proofs.Common.{refl}
use Rattle.segmentation.specs.Layout.{table_of}
use Rattle.queue.proofs.held_event.Press.{mark_in}
use Rattle.message.proofs.finishing.LastCharacter.{field-first, field-later, field-reads, told-key}
use Rattle.message.proofs.finishing.last_key.Goals as goal

pub last_key-requires : goal.last_key-requires
last_key-requires c =
    let a = c.args in
    let p = c.requires in
    field-reads a.place a.session.now a.answers.now p.0 p.1 p.2 p.3 (field-first a.place a.session.now a.answers.now c.if-place-eq0.true refl)

pub returns-then-place-eq0 : goal.returns-then-place-eq0
returns-then-place-eq0 c =
    let a = c.args in
    told-key (table_of a.table.bytes.now) _ c.last_key.ensures (mark_in a.session.now) (field-first a.place a.session.now a.answers.now c.if-place-eq0.true refl)

pub last_key-requires-2 : goal.last_key-requires-2
last_key-requires-2 c =
    let a = c.args in
    let p = c.requires in
    field-reads a.place a.session.now a.answers.now p.0 p.1 p.2 p.3 (field-later a.place a.session.now a.answers.now c.if-place-eq0.false refl)

pub returns : goal.returns
returns c =
    let a = c.args in
    told-key (table_of a.table.bytes.now) _ c.last_key-2.ensures (mark_in a.session.now) (field-later a.place a.session.now a.answers.now c.if-place-eq0.false refl)
