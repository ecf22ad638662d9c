-- One form of UTF-8 for each branch.
-- Assumes nothing.
use Rattle.std.proofs.Common.{ap, length, arith}
use Rattle.std.proofs.Math.ListN.{length-set}
use Rattle.text.proofs.Scalar.{scalar_below}
use Rattle.text.proofs.Utf8Form.{one_byte, two_bytes, three_bytes, four_bytes}
use Rattle.text.proofs.Placed.{one-put, two_put, three_put, four_put}
use Rattle.text.proofs.put_scalar.Goals as goal

pub bounds-s-at : goal.bounds-s-at
bounds-s-at c = omega (arith, ap length (one_byte c.args.c (omega arith)))

pub returns-then-c-lt128 : goal.returns-then-c-lt128
returns-then-c-lt128 c = one-put c.args.at c.args.c c.args.s.now (omega arith)

pub bounds-s-at-then-c-lt2048 : goal.bounds-s-at-then-c-lt2048
bounds-s-at-then-c-lt2048 c = omega (arith, ap length (two_bytes c.args.c (omega arith) (omega arith)))

pub bounds-s-at-then-c-lt2048-2 : goal.bounds-s-at-then-c-lt2048-2
bounds-s-at-then-c-lt2048-2 c = simp length-set (omega (arith, ap length (two_bytes c.args.c (omega arith) (omega arith))))

pub returns-then-c-lt2048 : goal.returns-then-c-lt2048
returns-then-c-lt2048 c = two_put c.args.at c.args.c c.args.s.now (omega arith) (omega arith)

pub bounds-s-at-then-c-lt65536 : goal.bounds-s-at-then-c-lt65536
bounds-s-at-then-c-lt65536 c = omega (arith, ap length (three_bytes c.args.c (omega arith) (omega arith)))

pub bounds-s-at-then-c-lt65536-2 : goal.bounds-s-at-then-c-lt65536-2
bounds-s-at-then-c-lt65536-2 c = simp length-set (omega (arith, ap length (three_bytes c.args.c (omega arith) (omega arith))))

pub bounds-s-at-then-c-lt65536-3 : goal.bounds-s-at-then-c-lt65536-3
bounds-s-at-then-c-lt65536-3 c = simp length-set (omega (arith, ap length (three_bytes c.args.c (omega arith) (omega arith))))

pub returns-then-c-lt65536 : goal.returns-then-c-lt65536
returns-then-c-lt65536 c = three_put c.args.at c.args.c c.args.s.now (omega arith) (omega arith)

pub overflow_cast-s-2 : goal.overflow_cast-s-2
overflow_cast-s-2 c = omega (arith, scalar_below c.args.c c.requires.0)

pub bounds-s-at-2 : goal.bounds-s-at-2
bounds-s-at-2 c = omega (arith, ap length (four_bytes c.args.c (omega arith)))

pub bounds-s-at-3 : goal.bounds-s-at-3
bounds-s-at-3 c = simp length-set (omega (arith, ap length (four_bytes c.args.c (omega arith))))

pub bounds-s-at-4 : goal.bounds-s-at-4
bounds-s-at-4 c = simp length-set (omega (arith, ap length (four_bytes c.args.c (omega arith))))

pub bounds-s-at-5 : goal.bounds-s-at-5
bounds-s-at-5 c = simp length-set (omega (arith, ap length (four_bytes c.args.c (omega arith))))

pub returns : goal.returns
returns c = four_put c.args.at c.args.c c.args.s.now (omega arith)
