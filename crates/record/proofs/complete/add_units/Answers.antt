-- Assumes nothing.
use Rattle.std.proofs.Common.{ℕ, ◌+◌, get_or, ap, refl, arith}
use Rattle.record.proofs.complete.Units.{few_units, units-written}
use Rattle.record.proofs.complete.add_units.Goals as goal

pub put_char_units-requires : goal.put_char_units-requires
put_char_units-requires c =
    let a = c.args in
    let r = c.requires in
    omega (arith, r.0, few_units a.s.now (λ i. omega (arith, c.slice_known-1.given i)) a.at r.0 r.1 a.wparam _ c.char_units-added.ensures r.2)

pub overflow_cast-n-2 : goal.overflow_cast-n-2
overflow_cast-n-2 c =
    let a = c.args in
    let r = c.requires in
    omega (arith, c.len.ensures, few_units a.s.now (λ i. omega (arith, c.slice_known-1.given i)) a.at r.0 r.1 a.wparam _ c.char_units-added.ensures r.2)

pub returns : goal.returns
returns c =
    let a = c.args in
    let r = c.requires in
    units-written a.s.now (λ i. omega (arith, c.slice_known-1.given i)) a.at r.0 r.1 a.wparam _ c.char_units-added.ensures r.2
    c.put_char_units.ensures c.put_u8.ensures refl refl refl (ap (λ (n : ℕ). get_or a.s.now (a.at + 71) 0 + n) c.len.ensures)
