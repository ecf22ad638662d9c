-- Units that stand in an area, and what is written of them into one.
-- Assumes nothing.
use mathlib.Core.Path.{◌≡◌, refl, sym, ap, ◌∙◌}
use mathlib.Core.List.{List, [], ◌∷◌, ◌++◌}
use Prim.Native.Nat.{ℕ, zero, suc, ◌+◌, ◌-◌, ◌*◌, ◌/◌, ◌%◌, ◌≤◌, ◌<◌}
use native.Mathlib.Numerals.{towards_suc}
use native.Mathlib.Omega.{arith}
use lib.ListN.{length, take, drop, get_or, set, replicate, length-drop, length-replicate, take-append-drop}
use lib.Seq.{take-length, length-take-le, get_or-drop, drop-drop}
use Rattle.area.specs.Bytes.{num}
use Rattle.area.specs.Splice.{splice, padded}
use Rattle.area.proofs.Bytes.{num-drop}
use Rattle.area.proofs.Splice.{merge, over, splice-before}
use Rattle.std.specs.Prelude.{None, Some}
use Rattle.std.specs.Bool.{then_some}
use Rattle.text.specs.Unicode.{within, utf16_of, utf8_of, unit_step, utf16_step, text_of}
use Rattle.text.specs.Placed.{units_at, bytes_in, Put}
use Rattle.text.proofs.Tests.{either, then_pick}
use Rattle.text.proofs.Utf8Form.{one_byte, two_bytes, three_bytes, four_bytes}
use Rattle.text.proofs.Utf16Form.{unit_low, unit_pair, unit_lone, unit_high, knows16}
use Rattle.text.proofs.Steps.{past_step, at16, high_last}

-- ---- the bytes of a scalar value, written one by one

-- where the next go, and what stands there
abbrev Scalar-put : (at c n : ℕ) (x y : List ℕ) → Type 0
Scalar-put at c n x y = (at + n ≡ at + length (utf8_of c)) × (y ≡ splice at (utf8_of c) x)

module _ (at c : ℕ) (x : List ℕ) where
  pub one-put : c < 0x80 → Scalar-put at c 1 x (set x at c)
  unfolding splice
  one-put h = rw (one_byte c h) (refl, refl)

  pub two_put :
      0x80 ≤ c → c < 0x800 → Scalar-put at c 2 x (set (set x at (0xC0 + c / 64)) (at + 1) (0x80 + c % 64))
  unfolding splice
  two_put l h = rw (two_bytes c l h) (refl, simp towards_suc)

  pub three_put :
      0x800 ≤ c → c < 0x10000 →
      Scalar-put at c 3 x (set (set (set x at (0xE0 + c / 4096)) (at + 1) (0x80 + c / 64 % 64)) (at + 2) (0x80 + c % 64))
  unfolding splice
  three_put l h = rw (three_bytes c l h) (refl, simp towards_suc)

  pub four_put :
      0x10000 ≤ c →
      Scalar-put at c 4 x
      (set (set (set (set x at (0xF0 + c / 262144)) (at + 1) (0x80 + c / 4096 % 64)) (at + 2) (0x80 + c / 64 % 64)) (at + 3) (0x80 + c % 64))
  unfolding splice
  four_put l = rw (four_bytes c l) (refl, simp towards_suc)

-- ---- units in their places
pub units-count : (n : ℕ) (l : List ℕ) → length (units_at n l) ≡ n
unfolding units_at
units-count zero l = refl
units-count (suc n) l = ap suc (units-count n (drop 2 l))

nth : (n i : ℕ) (l : List ℕ) → i < n → get_or (units_at n l) i 0 ≡ num 2 (2 * i) l
unfolding units_at
nth zero i l h = absurd (omega arith)
nth (suc n) zero l h = refl
nth (suc n) (suc i) l h =
    let e : 2 + 2 * i ≡ 2 * suc i = omega arith in
    nth n i (drop 2 l) (omega arith) ∙ num-drop 2 (2 * i) 2 l ∙ ap (λ (k : ℕ). num 2 k l) e

-- units before a write are as they were
pub units-before :
    (n from at : ℕ) (bs x : List ℕ) → from + 2 * n ≤ at → units_at n (drop from (splice at bs x)) ≡ units_at n (drop from x)
unfolding units_at num
units-before zero from at bs x h = refl
units-before (suc n) from at bs x h =
    let low : get_or (drop from (splice at bs x)) 0 0 ≡ get_or (drop from x) 0 0 =
    get_or-drop from (splice at bs x) 0 0 ∙ splice-before at bs x (from + 0) (omega arith) ∙ sym (get_or-drop from x 0 0) in
    let high : get_or (drop from (splice at bs x)) 1 0 ≡ get_or (drop from x) 1 0 =
    get_or-drop from (splice at bs x) 1 0 ∙ splice-before at bs x (from + 1) (omega arith) ∙ sym (get_or-drop from x 1 0) in
    rw (low, high, drop-drop 2 from (splice at bs x), drop-drop 2 from x, units-before n (from + 2) at bs x (omega arith))

-- ---- the step at unit i
module _ (n from i : ℕ) (x : List ℕ) where
  abbrev us : List ℕ
  us = units_at n (drop from x)

  pub past_units : n ≤ i → None ≡ utf16_step (drop i us)
  past_units h = past_step us i utf16_of utf16_step knows16 (omega (arith, units-count n (drop from x)))

  module _ (u : ℕ) (e : u ≡ num 2 (from + 2 * i) x) (h : i < n) where
    there : get_or us i 0 ≡ u
    there = nth n i (drop from x) h ∙ num-drop 2 (2 * i) from x ∙ sym e

    step_there : utf16_step (drop i us) ≡ unit_step u (get_or us (i + 1) 0)
    step_there =
        at16 us i (omega (arith, units-count n (drop from x))) ∙ ap (λ (k : ℕ). unit_step k (get_or us (i + 1) 0)) there

    pub step_low : u < 0xD800 → Some (u, 1) ≡ utf16_step (drop i us)
    step_low a = sym (step_there ∙ unit_low u (get_or us (i + 1) 0) a)

    pub step_high : 0xE000 ≤ u → u < 0x10000 → Some (u, 1) ≡ utf16_step (drop i us)
    step_high a b = sym (step_there ∙ unit_high u (get_or us (i + 1) 0) a b)

    pub step_lone : 0xDC00 ≤ u → u < 0xE000 → None ≡ utf16_step (drop i us)
    step_lone a b = sym (step_there ∙ unit_lone u (get_or us (i + 1) 0) a b)

    pub step_last : n - i < 2 → 0xD800 ≤ u → u < 0xDC00 → None ≡ utf16_step (drop i us)
    step_last k a b =
        let l = units-count n (drop from x) in
        let t = there in
        sym (high_last us i (omega (arith, l)) (omega (arith, l)) (omega (arith, t)) (omega (arith, t)))

    module _ (v : ℕ) (f : v ≡ num 2 (from + 2 * i + 2) x) (k : i + 1 < n) (a : 0xD800 ≤ u) (b : u < 0xDC00) where
      two_there : utf16_step (drop i us) ≡ unit_step u v
      two_there =
          let p : from + 2 * (i + 1) ≡ from + 2 * i + 2 = omega arith in
          step_there
          ∙ ap (λ (w : ℕ). unit_step u w)
          (nth n (i + 1) (drop from x) k ∙ num-drop 2 (2 * (i + 1)) from x ∙ ap (λ (w : ℕ). num 2 w x) p ∙ sym f)

      pub step_pair :
          then_some (within 0xDC00 0xDFFF v) (0x10000 + u % 0x400 * 0x400 + v % 0x400, 2) ≡ utf16_step (drop i us)
      step_pair = then_pick (within 0xDC00 0xDFFF v) _ ∙ sym (two_there ∙ unit_pair u v a b)

-- ---- what a caller learns of a text that is put
module _ (us : List ℕ) (at : ℕ) (x y : List ℕ) (r : ℕ) (p : Put us at x y r) where
  -- the text is what was written, up to its length
  pub put-text : take r p.bytes ≡ bytes_in (text_of us)
  put-text =
      either 0 r
      (λ h.
      let e = p.whole h in
      let l : r ≡ length p.bytes = p.count ∙ rw e refl in
      rw e (ap (λ (k : ℕ). take k p.bytes) l ∙ take-length p.bytes))
      (λ h. let z : r ≡ 0 = omega arith in rw z (sym (nil (bytes_in (text_of us)) (sym p.count ∙ z))))
    where
      nil : (l : List ℕ) → length l ≡ 0 → l ≡ []
      nil [] e = refl
      nil (b ∷ l) e = absurd (omega arith)

  -- with zeros behind it, a field of 48 bytes
  pub put-padded :
      {k w : ℕ} {z : List ℕ} → z ≡ splice k (replicate {A = ℕ} w 0) y → k ≡ at + r → w ≡ 48 - r →
      z ≡ splice at (padded 48 (bytes_in (text_of us))) x
  unfolding padded
  put-padded {k} {w} {z} q ek ew =
      let front = take r p.bytes in
      let rest = drop r p.bytes in
      let zeros = replicate {A = ℕ} (48 - r) 0 in
      let s = p.short in
      let i = p.within in
      let l : length front ≡ r = length-take-le r p.bytes i in
      let c : y ≡ splice (at + r) rest (splice at front x) =
      p.stands ∙ ap (λ (b : List ℕ). splice at b x) (sym (take-append-drop r p.bytes)) ∙ sym (merge at r front rest x l) in
      let d : z ≡ splice (at + r) zeros (splice at front x) =
      q ∙ rw (ek, ew, c) (over (at + r) (at + r) zeros rest (splice at front x) (omega arith) (simp (length-drop, length-replicate) (omega arith))) in
      d ∙ merge at r front zeros x l ∙ ap (λ (b : List ℕ). splice at (b ++ zeros) x) put-text ∙ rw (← p.count) refl
