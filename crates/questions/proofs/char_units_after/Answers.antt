-- Assumes nothing.
use Rattle.std.proofs.Common.{◌+◌, ap, ◌∙◌, ℕ, arith, rules}
use Rattle.questions.proofs.AsksBySort.{char_unheld, press_there, char-units-held, units-fit}
use Rattle.questions.proofs.char_units_after.Goals as goal

pub returns-then-not-h : goal.returns-then-not-h
returns-then-not-h c = char_unheld _ c.header_at-h.ensures.1 (search rules) _

pub unit_count-held-requires : goal.unit_count-held-requires
unit_count-held-requires c = (omega arith, press_there _ c.header_at-h.ensures.1 c.requires (search rules))

pub overflow_add-result : goal.overflow_add-result
overflow_add-result c = omega (arith, c.len.ensures, units-fit _ _ _ c.unit_count-held.ensures.1 c.char_units-added.ensures)

pub returns : goal.returns
returns c =
    ap (λ (n : ℕ). c.unit_count-held.result + n) c.len.ensures
    ∙ char-units-held _ c.header_at-h.ensures.1 c.requires (search rules) _ _ _ c.unit_count-held.ensures.0 c.char_units-added.ensures
