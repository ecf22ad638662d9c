-- The list and the field are the two parts of the area.
-- Assumes nothing.
use Rattle.std.proofs.Common.{arith}
use Rattle.record.proofs.typed.Typing.{typed_behind}
use Rattle.record.proofs.typed.put_typed_within.Goals as goal

pub put_typed-requires : goal.put_typed-requires
put_typed-requires c =
    let a = c.args in
    let list = c.split_at_mut-list.result.0.now in
    let field = c.split_at_mut-list.result.1.now in
    let parts = c.split_at_mut-list.ensures in
    let there = typed_behind a.from a.s.now list field parts.value (λ i. omega (arith, c.slice_known-1.given i)) (omega arith) c.requires.1 in
    (omega arith, there.0, omega arith)

pub returns : goal.returns
returns c =
    let a = c.args in
    let parts = c.split_at_mut-list.ensures in
    let there = typed_behind a.from a.s.now _ _ parts.value (λ i. omega (arith, c.slice_known-1.given i)) (omega arith) c.requires.1 in
    rw (← parts.front_len) (there.1 _ c.put_typed.ensures)
