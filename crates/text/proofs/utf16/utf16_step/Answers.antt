-- One law of `unit_step` for each way out.
-- Assumes nothing.
use Rattle.std.proofs.Common.{◌≡◌, ◌∙◌, arith, rules}
use Rattle.text.specs.Unicode.{within}
use Rattle.text.proofs.Placed.{past_units, step_low, step_high, step_lone, step_last, step_pair}
use Rattle.text.proofs.utf16.utf16_step.Goals as goal

pub returns-then-n-i : goal.returns-then-n-i
returns-then-n-i c = let a = c.args in past_units a.n a.from a.i a.s.now c.if-n-i.true

pub returns-in-56320-to-57343 : goal.returns-in-56320-to-57343
returns-in-56320-to-57343 c =
    let a = c.args in step_lone a.n a.from a.i a.s.now _ c.get_u16-u.ensures (omega arith) (omega arith) (omega arith)

pub returns-in_default : goal.returns-in_default
returns-in_default c = let a = c.args in step_low a.n a.from a.i a.s.now _ c.get_u16-u.ensures (omega arith) (omega arith)

pub returns-in_default-2 : goal.returns-in_default-2
returns-in_default-2 c =
    let a = c.args in step_high a.n a.from a.i a.s.now _ c.get_u16-u.ensures (omega arith) (omega arith) (omega arith)

pub returns-then-n-i-lt2 : goal.returns-then-n-i-lt2
returns-then-n-i-lt2 c =
    let a = c.args in
    step_last a.n a.from a.i a.s.now _ c.get_u16-u.ensures (omega arith) (omega arith) (omega arith) (omega arith)

pub returns : goal.returns
returns c =
    let a = c.args in
    let low : c.contains.result ≡ within 0xDC00 0xDFFF c.get_u16.result = search rules in
    let pair = step_pair a.n a.from a.i a.s.now _ c.get_u16-u.ensures (omega arith) _ c.get_u16.ensures (omega arith) (omega arith) (omega arith) in
    c.then_some.ensures ∙ rw low pair
