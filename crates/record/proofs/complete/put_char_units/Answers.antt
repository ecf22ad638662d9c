-- Assumes nothing.
use Rattle.record.proofs.complete.Units.{one_unit, two-units}
use Rattle.record.proofs.complete.put_char_units.Goals as goal

pub returns-in-Some : goal.returns-in-Some
returns-in-Some c = let a = c.args in two-units a.added _ a.at a.s.now c.in-Some.is c.put_u16.ensures c.put_u16-in-Some.ensures

pub returns-in_default : goal.returns-in_default
returns-in_default c = let a = c.args in one_unit a.added a.at a.s.now c.in_default.is c.put_u16.ensures
