-- Halving in ranges that rise finds what the search from the first one on finds.
-- Assumes nothing.
use mathlib.Core.Path.{◌≡◌, refl, ap, ◌∙◌}
use mathlib.Core.Bool.{Bool, true, false}
use mathlib.Core.List.{List}
use Prim.Native.Nat.{ℕ, zero, suc, ◌+◌, ◌-◌, ◌/◌, ◌<◌, ◌≤◌}
use native.Mathlib.Nat.{zero-add, add-zero, suc-add, add-suc}
use native.Mathlib.Omega.{arith}
use lib.Dec.{eqb}
use borrow.Author.Tests.{eqb-true, eqb-false}
use Rattle.area.specs.Pick.{pick}
use Rattle.text.proofs.Tests.{inside, under, over}
use Rattle.segmentation.specs.declared.Props.{Props}
use Rattle.segmentation.specs.Classes.{outside}
use Rattle.segmentation.specs.Table.{Range, holds, props_in}
use Rattle.segmentation.specs.Layout.{count_in, first_at, last_at, kind_at, props_by, range_at, segment}
use Rattle.segmentation.proofs.break_table.Passed.{Checked, table_own, table_rise}

-- ---- over any ranges that rise, by their places
module _ (r : ℕ → Range) (s : ℕ) where
  -- what the search finds from low to below high
  abbrev Left : ℕ → ℕ → Props
  Left low high = props_in (segment r (high - low) low) s

  -- none of the m ranges from i on holds s
  abbrev Free : ℕ → ℕ → Type 0
  Free m i = (k : ℕ) → i ≤ k → k < i + m → holds (r k) s ≡ false

  none : (m i : ℕ) → Free m i → props_in (segment r m i) s ≡ outside
  unfolding segment props_in
  none zero i f = refl
  none (suc m) i f =
      rw (f i (omega arith) (omega arith)) (none m (suc i) (λ k h j. f k (omega arith) (omega arith)))

  -- those on the left don't hold s
  cut_left : (a b i : ℕ) → Free a i → props_in (segment r (a + b) i) s ≡ props_in (segment r b (i + a)) s
  unfolding segment props_in
  cut_left zero b i f = rw (zero-add b, add-zero i)
  cut_left (suc a) b i f =
      rw (suc-add a b, f i (omega arith) (omega arith))
      (cut_left a b (suc i) (λ k h j. f k (omega arith) (omega arith)) ∙ rw (suc-add i a, add-suc i a))

  -- those on the right don't
  cut_right : (a b i : ℕ) → Free b (i + a) → props_in (segment r (a + b) i) s ≡ props_in (segment r a i) s
  unfolding segment props_in
  cut_right zero b i f = rw (zero-add b) (none b i (λ k h j. f k (omega arith) (omega arith)))
  cut_right (suc a) b i f =
      rw (suc-add a b)
      (ap (λ (q : Props). pick (holds (r i) s) (r i).props q) (cut_right a b (suc i) (λ k h j. f k (omega arith) (omega arith))))

  module _ (n : ℕ) (own : (i : ℕ) → i < n → (r i).first ≤ (r i).last) (rise : (i : ℕ) → suc i < n → (r i).last < (r (suc i)).first) where
    later : (d i : ℕ) → i + suc d < n → (r i).last < (r (i + suc d)).first
    later zero i h = let e = rise i (omega arith) in rw (add-suc i 0, add-zero i) e
    later (suc d) i h =
        let a = later d i (omega arith) in
        let b = own (i + suc d) (omega arith) in
        let c = rise (i + suc d) (omega arith) in
        rw (add-suc i (suc d)) (omega arith)

    apart : (i k : ℕ) → i < k → k < n → (r i).last < (r k).first
    apart i k h j =
        let e : i + suc (k - i - 1) ≡ k = omega arith in
        rw e at (later (k - i - 1) i (omega arith))

    module _ (low middle high : ℕ) (h : low ≤ middle) (k : middle < high) (j : high ≤ n) where
      split : Left low high ≡ props_in (segment r (middle - low + (high - middle)) low) s
      split = let e : high - low ≡ middle - low + (high - middle) = omega arith in rw e

      -- s lies before the middle one
      go_below : s < (r middle).first → Left low high ≡ Left low middle
      go_below q = split ∙ cut_right (middle - low) (high - middle) low f
        where
          begins : (m : ℕ) → middle ≤ m → m < n → s < (r m).first
          begins m a b = go (eqb middle m) refl
            where
              go : (t : Bool) → eqb middle m ≡ t → s < (r m).first
              go true e = rw (eqb-true middle m e) at q
              go false e =
                  let z = eqb-false middle m e in
                  let w = own middle (omega arith) in
                  omega (arith, apart middle m (omega arith) b)

          f : Free (high - middle) (low + (middle - low))
          f m a b = under (r m).first (r m).last s (begins m (omega arith) (omega arith))

      -- s lies behind the middle one
      go_above : (r middle).last < s → Left low high ≡ Left (middle + 1) high
      go_above q = behind ∙ cut_left (middle + 1 - low) (high - (middle + 1)) low f ∙ rw e
        where
          behind : Left low high ≡ props_in (segment r (middle + 1 - low + (high - (middle + 1))) low) s
          behind = let e : high - low ≡ middle + 1 - low + (high - (middle + 1)) = omega arith in rw e

          e : low + (middle + 1 - low) ≡ middle + 1
          e = omega arith

          f : Free (middle + 1 - low) low
          f m a b = over (r m).first (r m).last s (go (eqb middle m) refl)
            where
              go : (t : Bool) → eqb middle m ≡ t → (r m).last < s
              go true e = rw (eqb-true middle m e) at q
              go false e =
                  let z = eqb-false middle m e in
                  let w = own middle (omega arith) in
                  omega (arith, apart m middle (omega arith) (omega arith))

      -- the middle one holds s
      go_found : (r middle).first ≤ s → s ≤ (r middle).last → Left low high ≡ (r middle).props
      unfolding segment props_in
      go_found p q =
          split
          ∙ cut_left (middle - low) (high - middle) low f
          ∙ rw (e, g, inside (r middle).first (r middle).last s p q)
        where
          e : low + (middle - low) ≡ middle
          e = omega arith

          g : high - middle ≡ suc (high - middle - 1)
          g = omega arith

          f : Free (middle - low) low
          f m a b = over (r m).first (r m).last s (omega (arith, apart m middle (omega arith) (omega arith)))

  -- nothing is left
  go_out : (low high : ℕ) → high ≤ low → Left low high ≡ outside
  unfolding segment props_in
  go_out low high h = let e : high - low ≡ 0 = omega arith in rw e

-- ---- in a table that passed, at the middle between low and high
module _ (x : List ℕ) (s low high : ℕ) where
  abbrev pub found : Props
  found = Left (range_at x) s low high

  -- nothing is left
  pub search_out : high ≤ low → found ≡ outside
  search_out h = go_out (range_at x) s low high h

module _ (x : List ℕ) (ok : Checked x) (s low high : ℕ) (h : low < high) (j : high ≤ count_in x) where
  abbrev middle : ℕ
  middle = low + (high - low) / 2

  from : low ≤ middle
  from = omega arith

  to : middle < high
  to = omega arith

  pub search_below : s < first_at x middle → found x s low high ≡ found x s low middle
  search_below q = go_below (range_at x) s (count_in x) (table_own x ok) (table_rise x ok) low middle high from to j q

  pub search_above : last_at x middle < s → found x s low high ≡ found x s (middle + 1) high
  search_above q = go_above (range_at x) s (count_in x) (table_own x ok) (table_rise x ok) low middle high from to j q

  pub search_found : first_at x middle ≤ s → s ≤ last_at x middle → found x s low high ≡ props_by (kind_at x middle)
  search_found p q = go_found (range_at x) s (count_in x) (table_own x ok) (table_rise x ok) low middle high from to j p q
