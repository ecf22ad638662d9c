-- The line at a place depends on the bytes from there on alone: the same bytes elsewhere read as the same line.
-- Assumes nothing.
use mathlib.Core.Path.{◌≡◌, refl, sym, subst, ◌∙◌}
use mathlib.Core.List.{List}
use Prim.Native.Nat.{ℕ, ◌+◌}
use lib.ListN.{length, drop}
use Rattle.std.specs.Prelude.{Option, Some, None, IfSome}
use Rattle.trace.specs.declared.form.Line.{Line}
use Rattle.trace.specs.Form.{line_at}
use Rattle.trace.specs.Grammar.{shown, IfLine}
use Rattle.trace.proofs.form.Lines.{line_is, line_back}

-- the same line, read at another place of other bytes
abbrev pub Alike : Option (Line × ℕ) → ℕ → Option (Line × ℕ) → Type 0
Alike o to p = IfSome o (λ r. p ≡ Some (r.0, to + length (shown r.0)))

module _ (x y : List ℕ) (at to : ℕ) (e : drop at x ≡ drop to y) where
  alike : (o : Option (Line × ℕ)) → IfLine x at o → Alike o to (line_at y to)
  alike None i = tt
  alike (Some r) i = line_back y (drop r.1 x) to r.0 i.ranged (sym e ∙ i.text)

  -- a line that is read here is read there
  pub shifted : Alike (line_at x at) to (line_at y to)
  shifted = alike (line_at x at) (line_is x at)

-- where none is read here, none is read there
none_from : (o : Option (Line × ℕ)) (at : ℕ) → Alike o at None → o ≡ None
none_from None at a = refl
none_from (Some r) at a = absurd (cc)

pub no_line_shifted : (x y : List ℕ) (at to : ℕ) → drop at x ≡ drop to y → line_at x at ≡ None → line_at y to ≡ None
no_line_shifted x y at to e q =
    none_from (line_at y to) at (subst (λ (o : Option (Line × ℕ)). Alike (line_at y to) at o) q (shifted y x to at (sym e)))
