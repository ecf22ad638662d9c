-- Question 11: the walks over the columns, and the whole question by question.
-- Assumes nothing.
use mathlib.Core.Path.{◌≡◌, refl, ap, ◌∙◌}
use mathlib.Core.Bool.{Bool, true, false, ◌&&◌, ◌||◌}
use mathlib.Core.List.{List}
use Prim.Native.Nat.{ℕ, zero, suc, ◌+◌, ◌-◌, ◌*◌, ◌<◌, ◌≤◌}
use native.Mathlib.Omega.{arith}
use lib.Dec.{ltb}
use lib.ListN.{length, take, drop, get_or}
use lib.Seq.{get_or-drop}
use borrow.Author.Tests.{lt-ltb, le-ltb, eq-eqb, ne_eqb}
use Rattle.area.specs.Bytes.{num}
use Rattle.area.specs.Walk.{every}
use Rattle.area.proofs.Splice.{part_rest, part_length}
use Rattle.area.proofs.Walk.{SoFar, every_both}
use Rattle.text.specs.Unicode.{scalar}
use Rattle.text.proofs.Scalar.{scalar_low, scalar_none, scalar_above}
use Rattle.text.proofs.Tests.{either}
use Rattle.segmentation.specs.Layout.{TABLE_MOST, HEAD, FORM, form_in, count_in, size_of, first_at, last_at, kind_at, last_before, after_last, ends_ok, ends_at, kind_ok, known_at, range_ok, ranges_ok, table_ok}

-- a scalar value by bits
pub scalar_bits : (v : ℕ) → scalar v ≡ (ltb v 0xD800 || (ltb 0xDFFF v && ltb v 0x110000))
scalar_bits v =
    either v 0xD800 (λ h. rw (scalar_low v h, lt-ltb v 0xD800 h))
    (λ h.
    either v 0xE000 (λ k. rw (scalar_none v h k, le-ltb v 0xD800 h, le-ltb 0xDFFF v (omega arith)))
    (λ k. rw (scalar_above v k, le-ltb v 0xD800 h, lt-ltb 0xDFFF v (omega arith))))

-- the last column, as the code goes through it
abbrev kinds : List ℕ → ℕ → List ℕ
kinds x n = take (length x - (HEAD + 8 * n)) (drop (HEAD + 8 * n) x)

pub kinds_count : (x : List ℕ) (n : ℕ) → length x ≡ size_of n → length (kinds x n) ≡ n
kinds_count x n h = part_length (HEAD + 8 * n) (length x - (HEAD + 8 * n)) x (omega arith) ∙ omega arith

-- ---- the columns, where n is the number of ranges that the code read
module _ (x : List ℕ) (i n : ℕ) (e : n ≡ count_in x) where
  pub last_is : (v : ℕ) → v ≡ num 4 (HEAD + 4 * n + 4 * i) x → v ≡ last_at x i
  unfolding last_at
  last_is v h = h ∙ ap (λ (k : ℕ). num 4 (HEAD + 4 * k + 4 * i) x) e

  pub kind_is : get_or x (HEAD + 8 * n + i) 0 ≡ kind_at x i
  unfolding kind_at
  kind_is = ap (λ (k : ℕ). get_or x (HEAD + 8 * k + i) 0) e

  -- ---- the tests of one range
  pub ends_bit :
      (first last : ℕ) (r : Bool) → first ≡ first_at x i → last ≡ num 4 (HEAD + 4 * n + 4 * i) x → r ≡ ends_ok first last →
      r ≡ ends_at x i
  unfolding ends_at
  ends_bit first last r f l h = h ∙ rw (f, last_is last l)

  pub known_bit : (r : Bool) → r ≡ kind_ok (get_or (kinds x n) i 0) → r ≡ known_at x i
  unfolding known_at
  known_bit r h =
      h
      ∙ ap (λ (l : List ℕ). kind_ok (get_or l i 0)) (part_rest (HEAD + 8 * n) x)
      ∙ ap kind_ok (get_or-drop (HEAD + 8 * n) x i 0 ∙ kind_is)

pub after-bit :
    (x : List ℕ) (i n first last : ℕ) → n ≡ count_in x → 0 < i → last ≡ num 4 (HEAD + 4 * n + 4 * i - 4) x → first ≡ first_at x i →
    ltb last first ≡ after_last x i
unfolding after_last last_before
after-bit x zero n first last e h l f = absurd (omega arith)
after-bit x (suc i) n first last e h l f =
    let q : HEAD + 4 * n + 4 * suc i - 4 ≡ HEAD + 4 * n + 4 * i = omega arith in
    rw (ne_eqb (suc i) 0 (λ k. omega arith), f, last_is x i n e last (rw q at l))

-- the walk that begins at the second
pub second_start : (x : List ℕ) (n : ℕ) → SoFar (after_last x) n true 1
unfolding every after_last
second_start x zero = refl
second_start x (suc n) = let e : suc n - 1 ≡ n = omega arith in rw e

-- ---- the walks of the three tests are one walk
all_ranges :
    (x : List ℕ) (n : ℕ) →
    (every (after_last x) n 0 && (every (ends_at x) n 0 && every (known_at x) n 0)) ≡ every (range_ok x) n 0
unfolding range_ok
all_ranges x n =
    ap (λ (t : Bool). every (after_last x) n 0 && t) (every_both (ends_at x) (known_at x) n 0)
    ∙ every_both (after_last x) (λ (k : ℕ). ends_at x k && known_at x k) n 0

pub parts-ok :
    (x : List ℕ) (n : ℕ) (a b c : Bool) → n ≡ count_in x → a ≡ every (after_last x) n 0 → b ≡ every (ends_at x) n 0 → c ≡ every (known_at x) n 0 →
    (a && (b && c)) ≡ ranges_ok x
unfolding ranges_ok
parts-ok x n a b c e p q r = cc (all_ranges x n, e, p, q, r)

-- ---- the whole, question by question
module _ (x : List ℕ) where
  pub ok_long : TABLE_MOST < length x → false ≡ table_ok x
  unfolding table_ok
  ok_long h = rw (lt-ltb TABLE_MOST (length x) h)

  module _ (a : length x ≤ TABLE_MOST) where
    pub ok-short : length x < HEAD → false ≡ table_ok x
    unfolding table_ok
    ok-short h = rw (le-ltb TABLE_MOST (length x) a, lt-ltb (length x) HEAD h)

    module _ (b : HEAD ≤ length x) where
      pub ok_form : (form_in x ≡ FORM → ⊥) → false ≡ table_ok x
      unfolding table_ok
      ok_form h = rw (le-ltb TABLE_MOST (length x) a, le-ltb (length x) HEAD b, ne_eqb (form_in x) FORM h)

      module _ (f : form_in x ≡ FORM) where
        pub ok-size : (length x ≡ size_of (count_in x) → ⊥) → false ≡ table_ok x
        unfolding table_ok
        ok-size h =
            rw (le-ltb TABLE_MOST (length x) a, le-ltb (length x) HEAD b, eq-eqb (form_in x) FORM f, ne_eqb (length x) (size_of (count_in x)) h)

        pub ok_ranges : length x ≡ size_of (count_in x) → ranges_ok x ≡ table_ok x
        unfolding table_ok
        ok_ranges h =
            rw (le-ltb TABLE_MOST (length x) a, le-ltb (length x) HEAD b, eq-eqb (form_in x) FORM f, eq-eqb (length x) (size_of (count_in x)) h)
