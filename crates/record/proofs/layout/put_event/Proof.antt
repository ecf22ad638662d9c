-- `record::layout::put_event` meets its contract.
-- Assumes nothing.
use mathlib.Core.Path.{refl}
use borrow.Author.Rules.{rules}
use Rattle.record.proofs.layout.Records.{event-written}
use Rattle.record.proofs.layout.put_event.Statement.{statement}
use Rattle.record.proofs.layout.put_event.Tie as tie

put-code-requires : tie.Need-put_code-requires
put-code-requires c κs = search rules

add-put-key : tie.Need-overflow_add-at
add-put-key c = search rules

put-key-requires : tie.Need-put_key-requires
put-key-requires c κs = search rules

add-put-text : tie.Need-overflow_add-at-2
add-put-text c = search rules

put-text-requires : tie.Need-put_text-requires
put-text-requires c κs = search rules

add-put-marks : tie.Need-overflow_add-at-3
add-put-marks c = search rules

put-marks-requires : tie.Need-put_marks-requires
put-marks-requires c κs = search rules

add-put-text-2 : tie.Need-overflow_add-at-4
add-put-text-2 c = search rules

put-text-requires-2 : tie.Need-put_text-requires-2
put-text-requires-2 c κs = search rules

add-put-plain-key : tie.Need-overflow_add-at-5
add-put-plain-key c = search rules

put-plain-key-requires : tie.Need-put_plain_key-requires
put-plain-key-requires c κs = search rules

same_length : tie.Need-shape_of-s
same_length c = search rules

returns : tie.Need-returns
returns c =
    let a = c.args in
    event-written a.block.now a.e a.at a.s.now c.requires.1 c.put_code.ensures c.put_key.ensures
    c.put_text.ensures c.put_marks.ensures c.put_text-2.ensures c.put_plain_key.ensures refl refl refl refl refl refl refl refl refl

pub put_event_spec : {M : Type 1} → statement M
put_event_spec =
    tie.close
    (tie.spec
    put-code-requires
    add-put-key
    put-key-requires
    add-put-text
    put-text-requires
    add-put-marks
    put-marks-requires
    add-put-text-2
    put-text-requires-2
    add-put-plain-key
    put-plain-key-requires
    same_length
    returns)
