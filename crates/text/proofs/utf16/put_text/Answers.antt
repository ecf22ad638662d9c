-- Assumes nothing.
use Rattle.std.proofs.Common.{sym, drop, arith}
use Rattle.text.proofs.Placed.{units-count}
use Rattle.text.proofs.Made.{start, put_none, put_all, fits, may_append, next}
use Rattle.text.proofs.utf16.put_text.Goals as goal

pub loop-i-init : goal.loop-i-init
loop-i-init c = start _ _ _ _ (units-count c.args.n (drop c.args.from c.args.src.now)) c.requires.1

pub returns-in_default : goal.returns-in_default
returns-in_default c = put_none _ _ _ _ _ _ _ c.loop-i.invariant c.loop-i-test.true (sym c.in_default.ensures)

pub put_scalar-to-requires : goal.put_scalar-to-requires
put_scalar-to-requires c =
    let room = may_append _ _ _ _ _ _ _ c.loop-i.invariant _ _ (sym c.in-Some.ensures) in
    let size = c.loop-i.invariant.size in (room.0, omega arith)

pub overflow_add-i : goal.overflow_add-i
overflow_add-i c = omega (arith, fits _ _ _ _ _ _ _ c.loop-i.invariant _ _ (sym c.in-Some.ensures))

pub loop-i-smaller : goal.loop-i-smaller
loop-i-smaller c = omega (arith, fits _ _ _ _ _ _ _ c.loop-i.invariant _ _ (sym c.in-Some.ensures))

pub loop-i-preserved : goal.loop-i-preserved
loop-i-preserved c =
    let put = c.put_scalar-to.ensures in
    rw (put.0, put.1) (next _ _ _ _ _ _ _ c.loop-i.invariant _ _ (sym c.in-Some.ensures))

pub returns : goal.returns
returns c = put_all _ _ _ _ _ _ _ c.loop-i.invariant c.loop-i-test.false
