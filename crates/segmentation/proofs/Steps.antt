-- The pass over a text's bytes, step by step.
-- Assumes nothing.
use mathlib.Core.Path.{◌≡◌, refl, sym, ap, ◌∙◌}
use mathlib.Core.Bool.{Bool, true, false, ◌||◌}
use mathlib.Core.List.{List}
use Prim.Native.Nat.{ℕ, ◌+◌, ◌≤◌}
use lib.ListN.{length, drop}
use lib.Seq.{drop-drop}
use Rattle.text.specs.Unicode.{utf8_of, utf8_step, scalars_in}
use Rattle.std.specs.Prelude.{None, Some}
use Rattle.text.proofs.Utf8Read.{knows8}
use Rattle.text.proofs.Steps.{scalars_bad, scalars_next, past_step}
use Rattle.segmentation.specs.declared.Props.{Props}
use Rattle.segmentation.specs.declared.grapheme.Behind.{Behind}
use Rattle.segmentation.specs.Rules.{pieces}
use Rattle.segmentation.specs.Table.{Table, props_in, props_of, pieces_of, several_in}
use Rattle.segmentation.specs.Forward.{break_by, start, next_of, breaks_in, breaks_by}
use Rattle.segmentation.proofs.Forward.{several_by}

module _ (t : Table) (l : List ℕ) where
  -- nothing well-formed, or nothing at all
  module _ (e : utf8_step l ≡ None) where
    pub breaks_bad : (s : Behind) → false ≡ breaks_by t s l
    unfolding breaks_by props_of breaks_in
    breaks_bad s = rw (scalars_bad l e)

    pub several_bad : false ≡ several_in t l
    unfolding several_in pieces_of props_of pieces
    several_bad = rw (scalars_bad l e)

  -- one more scalar value, whose properties are p
  module _ (v n : ℕ) (e : utf8_step l ≡ Some (v, n)) (p : Props) (h : p ≡ props_in t v) where
    breaks_next : (s : Behind) → breaks_by t s l ≡ (break_by s p || breaks_by t (next_of s p) (drop n l))
    unfolding breaks_by props_of breaks_in
    breaks_next s = rw (scalars_next l v n e, ← h)

    -- r is what `breaks` answered
    module _ (s : Behind) (r : Bool) (k : r ≡ break_by s p) where
      asked : breaks_by t s l ≡ (r || breaks_by t (next_of s p) (drop n l))
      asked = breaks_next s ∙ ap (λ (b : Bool). b || breaks_by t (next_of s p) (drop n l)) (sym k)

      pub breaks_yes : r ≡ true → true ≡ breaks_by t s l
      breaks_yes f = sym (asked ∙ rw f)

      pub breaks_no : r ≡ false → breaks_by t s l ≡ breaks_by t (next_of s p) (drop n l)
      breaks_no f = asked ∙ rw f

    several_next : several_in t l ≡ breaks_by t (next_of start p) (drop n l)
    unfolding several_in pieces_of breaks_by props_of
    several_next = rw (scalars_next l v n e, ← h) (several_by p (props_of t (scalars_in (drop n l))))

past : (l : List ℕ) (i : ℕ) → length l ≤ i → utf8_step (drop i l) ≡ None
past l i h = sym (past_step l i utf8_of utf8_step knows8 h)

-- behind the last byte nothing breaks
pub breaks_past : (t : Table) (l : List ℕ) (i : ℕ) → length l ≤ i → (s : Behind) → false ≡ breaks_by t s (drop i l)
breaks_past t l i h s = breaks_bad t (drop i l) (past l i h) s

-- one scalar value alone
pub several_alone : (t : Table) (l : List ℕ) (v n : ℕ) → utf8_step l ≡ Some (v, n) → length l ≤ n → false ≡ several_in t l
several_alone t l v n e h =
    breaks_past t l n h (next_of start (props_in t v)) ∙ sym (several_next t l v n e (props_in t v) refl)

-- a turn of the loop at i, where s is behind and s' behind the next one
pub turn :
    (t : Table) (l : List ℕ) (i v n : ℕ) → utf8_step (drop i l) ≡ Some (v, n) → (p : Props) → p ≡ props_in t v → (s : Behind) (r : Bool) →
    r ≡ break_by s p → r ≡ false → (s' : Behind) → s' ≡ next_of s p → breaks_by t s (drop i l) ≡ breaks_by t s' (drop (i + n) l)
turn t l i v n e p h s r k f s' m =
    breaks_no t (drop i l) v n e p h s r k f
    ∙ ap (λ (m : List ℕ). breaks_by t (next_of s p) m) (drop-drop n i l)
    ∙ sym (ap (λ (z : Behind). breaks_by t z (drop (i + n) l)) m)

-- the first scalar value, with s behind it and the answer r for the rest
pub several_first :
    (t : Table) (l : List ℕ) (v n : ℕ) → utf8_step l ≡ Some (v, n) → (p : Props) → p ≡ props_in t v → (s : Behind) → s ≡ next_of start p →
    (r : Bool) → r ≡ breaks_by t s (drop n l) → r ≡ several_in t l
several_first t l v n e p h s m r k =
    k ∙ ap (λ (z : Behind). breaks_by t z (drop n l)) m ∙ sym (several_next t l v n e p h)
