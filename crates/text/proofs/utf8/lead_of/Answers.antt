-- A byte that passes the first n tests and not the next lies in one row of table 3-7, or in none.
-- Assumes nothing.
use Rattle.std.proofs.Common.{sym, arith}
use Rattle.text.specs.Unicode.{table3_7, lead_in}
use Rattle.text.proofs.Table37.{as_first}
use Rattle.text.proofs.utf8.lead_of.Goals as goal

pub returns-then-b-lt128 : goal.returns-then-b-lt128
unfolding table3_7 lead_in
returns-then-b-lt128 c = sym (as_first 0x00 0x80 c.args.b (omega arith) (omega arith) table3_7 tt)

pub returns-then-b-lt194 : goal.returns-then-b-lt194
unfolding table3_7 lead_in
returns-then-b-lt194 c = sym (as_first 0x80 0xC2 c.args.b (omega arith) (omega arith) table3_7 tt)

pub returns-then-b-lt224 : goal.returns-then-b-lt224
unfolding table3_7 lead_in
returns-then-b-lt224 c = sym (as_first 0xC2 0xE0 c.args.b (omega arith) (omega arith) table3_7 tt)

pub returns-then-b-lt225 : goal.returns-then-b-lt225
unfolding table3_7 lead_in
returns-then-b-lt225 c = sym (as_first 0xE0 0xE1 c.args.b (omega arith) (omega arith) table3_7 tt)

pub returns-then-b-lt237 : goal.returns-then-b-lt237
unfolding table3_7 lead_in
returns-then-b-lt237 c = sym (as_first 0xE1 0xED c.args.b (omega arith) (omega arith) table3_7 tt)

pub returns-then-b-lt238 : goal.returns-then-b-lt238
unfolding table3_7 lead_in
returns-then-b-lt238 c = sym (as_first 0xED 0xEE c.args.b (omega arith) (omega arith) table3_7 tt)

pub returns-then-b-lt240 : goal.returns-then-b-lt240
unfolding table3_7 lead_in
returns-then-b-lt240 c = sym (as_first 0xEE 0xF0 c.args.b (omega arith) (omega arith) table3_7 tt)

pub returns-then-b-lt241 : goal.returns-then-b-lt241
unfolding table3_7 lead_in
returns-then-b-lt241 c = sym (as_first 0xF0 0xF1 c.args.b (omega arith) (omega arith) table3_7 tt)

pub returns-then-b-lt244 : goal.returns-then-b-lt244
unfolding table3_7 lead_in
returns-then-b-lt244 c = sym (as_first 0xF1 0xF4 c.args.b (omega arith) (omega arith) table3_7 tt)

pub returns-then-b-lt245 : goal.returns-then-b-lt245
unfolding table3_7 lead_in
returns-then-b-lt245 c = sym (as_first 0xF4 0xF5 c.args.b (omega arith) (omega arith) table3_7 tt)

pub returns-else-b-lt245 : goal.returns-else-b-lt245
unfolding table3_7 lead_in
returns-else-b-lt245 c = sym (as_first 0xF5 0x100000000 c.args.b (omega arith) (omega arith) table3_7 tt)
