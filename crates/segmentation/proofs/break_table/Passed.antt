-- What a table that passed question 11 is, as facts.
-- Assumes nothing.
use mathlib.Core.Path.{◌≡◌}
use mathlib.Core.Bool.{true}
use mathlib.Core.List.{List}
use Prim.Native.Nat.{ℕ, suc, ◌<◌, ◌≤◌}
use native.Mathlib.Omega.{arith}
use lib.Dec.{eqb, leb, ltb}
use lib.ListN.{length}
use borrow.Author.Tests.{leb-true, ltb-true, ne_eqb, eqb-true}
use Rattle.area.proofs.Pick.{no_yes, yes_no}
use Rattle.area.proofs.Walk.{every_at}
use Rattle.text.proofs.Tests.{both}
use Rattle.segmentation.specs.Layout.{TABLE_MOST, HEAD, FORM, form_in, count_in, size_of, first_at, last_at, last_before, after_last, ends_at, range_at, range_ok, ranges_ok, table_ok}

-- its bytes are those of its ranges, and each is in order
pub record Checked (x : List ℕ) : Type 0 where
  pub size : length x ≡ size_of (count_in x)
  pub ranges : ranges_ok x ≡ true

pub checked : (x : List ℕ) → table_ok x ≡ true → Checked x
unfolding table_ok
checked x e =
    let a = no_yes (ltb TABLE_MOST (length x)) _ e in
    let b = no_yes (ltb (length x) HEAD) _ a.1 in
    let c = yes_no (eqb (form_in x) FORM) _ b.1 in
    let d = yes_no (eqb (length x) (size_of (count_in x))) (ranges_ok x) c.1 in
    record { size = eqb-true (length x) (size_of (count_in x)) d.0; ranges = d.1 }

-- no range ends before it begins, and the next begins behind it
module _ (x : List ℕ) (ok : Checked x) where
  parts : (i : ℕ) → i < count_in x → (after_last x i ≡ true) × (leb (first_at x i) (last_at x i) ≡ true)
  unfolding range_ok ranges_ok ends_at
  parts i h =
      let e : range_ok x i ≡ true = every_at (range_ok x) (count_in x) 0 i ok.ranges (omega arith) (omega arith) in
      let p = both (after_last x i) _ e in
      let q = both (ends_at x i) _ p.1 in
      (p.0, (both (leb (first_at x i) (last_at x i)) _ q.0).0)

  pub table_own : (i : ℕ) → i < count_in x → (range_at x i).first ≤ (range_at x i).last
  table_own i h = leb-true (first_at x i) (last_at x i) (parts i h).1

  pub table_rise : (i : ℕ) → suc i < count_in x → (range_at x i).last < (range_at x (suc i)).first
  unfolding last_before after_last
  table_rise i h =
      ltb-true (last_at x i) (first_at x (suc i))
      (rw (ne_eqb (suc i) 0 (λ e. omega arith)) at (parts (suc i) h).0)
