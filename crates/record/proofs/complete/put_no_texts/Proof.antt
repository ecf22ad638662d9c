-- `record::complete::put_no_texts` meets its contract.
-- Assumes nothing.
use mathlib.Core.Path.{refl}
use borrow.Author.Rules.{rules}
use Rattle.record.proofs.complete.Events.{middle_written}
use Rattle.record.proofs.complete.put_no_texts.Statement.{statement}
use Rattle.record.proofs.complete.put_no_texts.Tie as tie

put-zeros-requires : tie.Need-put_zeros-requires
put-zeros-requires c κs = search rules

add-put-marks : tie.Need-overflow_add-at
add-put-marks c = search rules

put-marks-requires : tie.Need-put_marks-requires
put-marks-requires c κs = search rules

add-put-zeros : tie.Need-overflow_add-at-2
add-put-zeros c = search rules

put-zeros-requires-2 : tie.Need-put_zeros-requires-2
put-zeros-requires-2 c κs = search rules

same_length : tie.Need-shape_of-s
same_length c = search rules

returns : tie.Need-returns
returns c =
    let a = c.args in
    middle_written a.l a.st a.repeat a.at a.s.now c.put_zeros.ensures c.put_marks.ensures
    c.put_zeros-2.ensures refl refl refl refl refl

pub put_no_texts_spec : {M : Type 1} → statement M
put_no_texts_spec =
    tie.close
    (tie.spec
    put-zeros-requires
    add-put-marks
    put-marks-requires
    add-put-zeros
    put-zeros-requires-2
    same_length
    returns)
