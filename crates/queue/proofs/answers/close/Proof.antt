-- `queue::answers::close` meets its contract.
-- Assumes nothing.
use mathlib.Core.Path.{refl}
use borrow.Author.Rules.{rules}
use Rattle.queue.proofs.answers.AnswerArea.{closed}
use Rattle.queue.proofs.answers.close.Statement.{statement}
use Rattle.queue.proofs.answers.close.Tie as tie

cast-put-u16 : tie.Need-overflow_cast-n
cast-put-u16 c = search rules

put-u16-requires : tie.Need-put_u16-requires
put-u16-requires c κs = search rules

mul-fill-zero : tie.Need-overflow_mul-n
mul-fill-zero c = search rules

add-fill-zero : tie.Need-overflow_add-n
add-fill-zero c = search rules

fill-zero-requires : tie.Need-fill_zero-requires
fill-zero-requires c κs = search rules

same_length : tie.Need-shape_of-answers
same_length c = search rules

returns : tie.Need-returns
returns c =
    let a = c.args in
    closed a.n a.answers.now c.put_u16.ensures c.fill_zero.ensures refl refl

pub close_spec : {M : Type 1} → statement M
close_spec =
    tie.close
    (tie.spec
    cast-put-u16
    put-u16-requires
    mul-fill-zero
    add-fill-zero
    fill-zero-requires
    same_length
    returns)
