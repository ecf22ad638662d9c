-- The keys that a focus change writes, as they are noted one behind the other.
-- Assumes nothing.
use mathlib.Core.Path.{◌≡◌, refl, sym, ap, ◌∙◌}
use mathlib.Core.Bool.{Bool, true, false}
use mathlib.Core.List.{List, [], ◌∷◌, ◌++◌, append_assoc, append-nil}
use Prim.Native.Nat.{ℕ, zero, suc, ◌+◌, ◌-◌, ◌≤◌, ◌<◌, zero-le}
use native.Mathlib.Omega.{arith}
use native.Mathlib.Numerals.{add-one}
use lib.ListN.{length, take, get_or, length-append}
use lib.Seq.{take-suc, length-take-le}
use Rattle.area.specs.Pick.{pick}
use Rattle.area.specs.Look.{assoc}
use Rattle.session.specs.Builder.{Keyboard}
use Rattle.session.specs.Focus.{modifier_keys, is_other, others_from, focus_keys, written}
use Rattle.session.specs.Limits.{KEYS}
use Rattle.session.specs.declared.ElementState.TheVariants.{Pressed, Released}
use Rattle.event.specs.Written.{written_of}

module _ (b : Keyboard) where
  -- ---- what is written of a list

  -- of two lists, one behind the other
  pub written-append : (xs ys : List ℕ) → written_of b (xs ++ ys) ≡ written_of b xs ++ written_of b ys
  unfolding written_of
  written-append [] ys = refl
  written-append (x ∷ xs) ys =
      ap (λ (l : List ℕ). pick (written b x) (x ∷ []) [] ++ l) (written-append xs ys)
      ∙ sym (append_assoc (pick (written b x) (x ∷ []) []) (written_of b xs) (written_of b ys))

  one-most : (w : Bool) (x : ℕ) → length (pick w (x ∷ []) []) ≤ 1
  one-most true x = omega arith
  one-most false x = omega arith

  -- no more than it has
  pub written-most : (xs : List ℕ) → length (written_of b xs) ≤ length xs
  unfolding written_of
  written-most [] = zero-le
  written-most (x ∷ xs) =
      omega (arith, length-append (pick (written b x) (x ∷ []) []) (written_of b xs), one-most (written b x) x, written-most xs)

  pub none_written : (l : List ℕ) → l ≡ l ++ written_of b []
  unfolding written_of
  none_written l = sym (append-nil l)

  -- ---- a walk: what is noted of the list so far, and of the keys of this turn
  pub noted :
      (from : List ℕ) {at next : List ℕ} (sofar here : List ℕ) {list : List ℕ} → at ≡ from ++ written_of b sofar →
      next ≡ at ++ written_of b here → list ≡ sofar ++ here → next ≡ from ++ written_of b list
  noted from sofar here a n l =
      n
      ∙ ap (λ (x : List ℕ). x ++ written_of b here) a
      ∙ append_assoc from (written_of b sofar) (written_of b here)
      ∙ sym (ap (λ (x : List ℕ). from ++ x) (ap (written_of b) l ∙ written-append sofar here))

  pub noted_most : (from : List ℕ) {at : List ℕ} (list : List ℕ) → at ≡ from ++ written_of b list → length at ≤ length from + length list
  noted_most from list e =
      omega (arith, ap length e, length-append from (written_of b list), written-most list)

-- ---- the six, a table of constants
pub six_count : length modifier_keys ≡ 6
unfolding modifier_keys
six_count = refl

pub six_more :
    (i : ℕ) → i < 6 →
    take (i + 1) modifier_keys ≡ take i modifier_keys ++ get_or (0xA2 ∷ 0xA0 ∷ 0xA4 ∷ 0xA3 ∷ 0xA1 ∷ 0xA5 ∷ []) i 0 ∷ []
unfolding modifier_keys
six_more i h = rw (add-one i) (take-suc (0xA2 ∷ 0xA0 ∷ 0xA4 ∷ 0xA3 ∷ 0xA1 ∷ 0xA5 ∷ []) i 0 h)

pub six_first : (i : ℕ) → i ≤ 6 → length (take i modifier_keys) ≡ i
six_first i h = length-take-le i modifier_keys (omega (arith, six_count))

pub six_all : (i : ℕ) → 6 ≤ i → i ≤ 6 → take i modifier_keys ≡ modifier_keys
unfolding modifier_keys
six_all i h k = let e : i ≡ 6 = omega arith in rw e refl

-- ---- the others
others-append : (m k vk : ℕ) → others_from (m + k) vk ≡ others_from m vk ++ others_from k (vk + m)
unfolding others_from
others-append zero k vk =
    let e : vk + 0 ≡ vk = omega arith in
    let d : 0 + k ≡ k = omega arith in rw (e, d) refl
others-append (suc m) k vk =
    let e : vk + 1 + m ≡ vk + suc m = omega arith in
    let d : suc m + k ≡ suc (m + k) = omega arith in
    rw d
    (ap (λ (l : List ℕ). pick (is_other vk) (vk ∷ []) [] ++ l) (others-append m k (vk + 1) ∙ ap (λ (x : ℕ). others_from m (vk + 1) ++ others_from k x) e)
    ∙ sym (append_assoc (pick (is_other vk) (vk ∷ []) []) (others_from m (vk + 1)) (others_from k (vk + suc m))))

one : (vk : ℕ) → others_from 1 vk ≡ pick (is_other vk) (vk ∷ []) []
unfolding others_from
one vk = append-nil (pick (is_other vk) (vk ∷ []) [])

pub none_other : others_from 0 0 ≡ []
unfolding others_from
none_other = refl

others_more : (vk : ℕ) → others_from (vk + 1) 0 ≡ others_from vk 0 ++ pick (is_other vk) (vk ∷ []) []
others_more vk =
    let e : 0 + vk ≡ vk = omega arith in
    others-append vk 1 0 ∙ ap (λ (l : List ℕ). others_from vk 0 ++ l) (ap (others_from 1) e ∙ one vk)

pub one_other : (vk : ℕ) → is_other vk ≡ true → others_from (vk + 1) 0 ≡ others_from vk 0 ++ vk ∷ []
one_other vk o = others_more vk ∙ ap (λ (x : Bool). others_from vk 0 ++ pick x (vk ∷ []) []) o

pub no_other : (vk : ℕ) → is_other vk ≡ false → others_from (vk + 1) 0 ≡ others_from vk 0
no_other vk o =
    others_more vk ∙ ap (λ (x : Bool). others_from vk 0 ++ pick x (vk ∷ []) []) o ∙ append-nil (others_from vk 0)

pub others_count : length (others_from KEYS 0) ≡ 246
unfolding others_from is_other assoc
others_count = refl

pub others-within : (vk : ℕ) → vk ≤ KEYS → length (others_from vk 0) ≤ 246
others-within vk h =
    let e : vk + (KEYS - vk) ≡ KEYS = omega arith in
    let all = ap (λ (n : ℕ). length (others_from n 0)) (sym e) ∙ ap length (others-append vk (KEYS - vk) 0) in
    omega (arith, all, others_count, length-append (others_from vk 0) (others_from (KEYS - vk) (0 + vk)))

-- another one is left
pub others-left : (vk : ℕ) → vk < KEYS → is_other vk ≡ true → length (others_from vk 0) < 246
others-left vk h o =
    omega (arith, others-within (vk + 1) (omega arith), ap length (one_other vk o), length-append (others_from vk 0) (vk ∷ []))

-- ---- Caps Lock, then two lists of keys
module _ (b : Keyboard) where
  three :
      {l₁ l₂ l₃ : List ℕ} (xs ys : List ℕ) → l₁ ≡ [] ++ written_of b (0x14 ∷ []) → l₂ ≡ l₁ ++ written_of b xs →
      l₃ ≡ l₂ ++ written_of b ys → l₃ ≡ written_of b (0x14 ∷ (xs ++ ys))
  three xs ys o p q =
      q
      ∙ ap (λ (l : List ℕ). l ++ written_of b ys) (p ∙ ap (λ (l : List ℕ). l ++ written_of b xs) o)
      ∙ append_assoc (written_of b (0x14 ∷ [])) (written_of b xs) (written_of b ys)
      ∙ ap (λ (l : List ℕ). written_of b (0x14 ∷ []) ++ l) (sym (written-append b xs ys))
      ∙ sym (written-append b (0x14 ∷ []) (xs ++ ys))

  pub gain_keys :
      written_of b (focus_keys Pressed) ≡ (([] ++ written_of b (0x14 ∷ [])) ++ written_of b (others_from KEYS 0)) ++ written_of b modifier_keys
  unfolding focus_keys
  gain_keys = sym (three (others_from KEYS 0) modifier_keys refl refl refl)

  pub loss_keys :
      written_of b (focus_keys Released) ≡ (([] ++ written_of b (0x14 ∷ [])) ++ written_of b modifier_keys) ++ written_of b (others_from KEYS 0)
  unfolding focus_keys
  loss_keys = sym (three modifier_keys (others_from KEYS 0) refl refl refl)
