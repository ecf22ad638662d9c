-- What is read as a number is a numeral, and a numeral is read: both ways, at any place of any bytes.
-- Assumes nothing.
use mathlib.Core.Path.{◌≡◌, refl, sym, subst, ap, ◌∙◌}
use mathlib.Core.Bool.{Bool, true, false}
use mathlib.Core.List.{List, [], ◌∷◌, ◌++◌, append_assoc, append-nil}
use Prim.Native.Nat.{ℕ, zero, suc, ◌+◌, ◌-◌, ◌*◌, ◌/◌, ◌%◌, ◌<◌, ◌≤◌}
use native.Mathlib.Numerals.{add-one}
use native.Mathlib.Nat.{add-zero, zero-add, sub_self, add_assoc}
use native.Mathlib.Omega.{arith}
use lib.Dec.{ltb, leb, eqb}
use lib.ListN.{length, take, drop, get_or, length-append, length-drop, take-append-drop, get_or-eq_default}
use lib.Seq.{drop-cons, drop-drop, get_or-drop, get_or_at, length-take-le}
use borrow.Author.Tests.{eqb-true, eqb-false, ltb-true, ltb-false, lt-ltb, le-ltb, le-leb, eq-eqb, ne_eqb}
use Rattle.std.specs.Prelude.{Option, Some, None, IfSome}
use Rattle.area.specs.Pick.{pick}
use Rattle.trace.specs.Numeral.{glyph, numeral}
use Rattle.trace.proofs.numeral.Digits.{numeral-last, numeral-more}
use Rattle.trace.specs.Form.{Number, digit_of, digits_from, number_at, field_at}
use Rattle.trace.proofs.form.Within.{by_pick, by_digit, by_some, within}

-- ---- digits
-- a test on numbers, both ways
below : (P : Bool → Type 0) (a b : ℕ) → (a < b → P true) → (b ≤ a → P false) → P (ltb a b)
below P a b f g = go (ltb a b) refl
  where
    go : (t : Bool) → ltb a b ≡ t → P t
    go true e = f (ltb-true a b e)
    go false e = g (ltb-false a b e)

abbrev Digit : ℕ → Option ℕ → Type 0
Digit b o = IfSome o (λ d. (glyph d ≡ b) × (d < 16))

glyph-digit : (b : ℕ) → Digit b (digit_of b)
unfolding digit_of glyph
glyph-digit b =
    below (λ t. Digit b (pick t None (pick (ltb b 58) (Some (b - 48)) (pick (ltb b 97) None (pick (ltb b 103) (Some (b - 87)) None))))) b 48 (λ h. tt)
    (λ h. below (λ t. Digit b (pick t (Some (b - 48)) (pick (ltb b 97) None (pick (ltb b 103) (Some (b - 87)) None)))) b 58
    (λ k. (rw (lt-ltb (b - 48) 10 (omega arith)) (omega arith), omega arith))
    (λ k. below (λ t. Digit b (pick t None (pick (ltb b 103) (Some (b - 87)) None))) b 97 (λ i. tt)
    (λ i. below (λ t. Digit b (pick t (Some (b - 87)) None)) b 103 (λ j. (rw (le-ltb (b - 87) 10 (omega arith)) (omega arith), omega arith)) (λ j. tt))))

-- a digit's code is the byte
digit_is : (b d : ℕ) → digit_of b ≡ Some d → (glyph d ≡ b) × (d < 16)
digit_is b d e = subst (λ (o : Option ℕ). Digit b o) e (glyph-digit b)

digit_glyph : (d : ℕ) → d < 16 → digit_of (glyph d) ≡ Some d
unfolding digit_of glyph
digit_glyph d h =
    below (λ t. digit_of (pick t (48 + d) (87 + d)) ≡ Some d) d 10
    (λ k. rw (le-ltb (48 + d) 48 (omega arith), lt-ltb (48 + d) 58 (omega arith)) (let e : 48 + d - 48 ≡ d = omega arith in ap (λ (n : ℕ). Some n) e))
    (λ k. rw (le-ltb (87 + d) 48 (omega arith), le-ltb (87 + d) 58 (omega arith), le-ltb (87 + d) 97 (omega arith), lt-ltb (87 + d) 103 (omega arith))
    (let e : 87 + d - 87 ≡ d = omega arith in ap (λ (n : ℕ). Some n) e))

-- one digit more
numeral_snoc : (v d : ℕ) → 0 < v → d < 16 → numeral 16 (v * 16 + d) ≡ numeral 16 v ++ (glyph d ∷ [])
numeral_snoc v d h k =
    let p : (v * 16 + d) / 16 ≡ v = omega arith in
    let q : (v * 16 + d) % 16 ≡ d = omega arith in
    numeral-more 16 (v * 16 + d) (omega arith) (omega arith) ∙ rw (p, q)

-- ---- what is read is a numeral
-- behind digits of the value v, l is read from `at` on
abbrev Reads : List ℕ → ℕ → ℕ → Number → Type 0
Reads l at v o = IfSome o (λ r. (at ≤ r.1) × (r.1 - at ≤ length l) × (numeral 16 r.0 ≡ numeral 16 v ++ take (r.1 - at) l))

reads_none : (l : List ℕ) (at v : ℕ) → Reads l at v (Some (v, at))
reads_none l at v = (omega arith, omega arith, rw (sub_self at) (sym (append-nil (numeral 16 v))))

reads_more :
    (b d : ℕ) (bs : List ℕ) (at v : ℕ) (o : Number) → 0 < v → digit_of b ≡ Some d → Reads bs (at + 1) (v * 16 + d) o → Reads (b ∷ bs) at v o
reads_more b d bs at v None h k i = tt
reads_more b d bs at v (Some r) h k i =
    let n = r.1 in
    let a = i.0 in
    let z = i.1 in
    let g = digit_is b d k in
    let e : n - at ≡ suc (n - (at + 1)) = omega arith in (
      omega arith,
      omega arith,
      i.2
          ∙ ap (λ (t : List ℕ). t ++ take (n - (at + 1)) bs) (numeral_snoc v d h g.1 ∙ ap (λ (g : ℕ). numeral 16 v ++ (g ∷ [])) g.0)
          ∙ append_assoc (numeral 16 v) (b ∷ []) (take (n - (at + 1)) bs)
          ∙ rw e,
    )

digits_read : (l : List ℕ) (top v at : ℕ) → 0 < v → Reads l at v (digits_from top v at l)
unfolding digits_from
digits_read [] top v at h = reads_none [] at v
digits_read (b ∷ bs) top v at h =
    by_digit (λ (r : Number). Reads (b ∷ bs) at v r) (digit_of b) _ _ (λ e. reads_none (b ∷ bs) at v)
    (λ d e. by_pick (λ (r : Number). Reads (b ∷ bs) at v r) (leb (v * 16 + d) top) _ _
    (λ k. reads_more b d bs at v (digits_from top (v * 16 + d) (at + 1) bs) h e (digits_read bs top (v * 16 + d) (at + 1) (omega arith))) (λ k. tt))

abbrev NumberIs : List ℕ → ℕ → Number → Type 0
NumberIs x at o = IfSome o (λ r. (at ≤ r.1) × (r.1 ≤ length x) × (numeral 16 r.0 ≡ take (r.1 - at) (drop at x)))

-- a byte that is something lies within
pub some_byte : (x : List ℕ) (at : ℕ) → 0 < get_or x at 0 → at < length x
some_byte x at h = below (λ t. ltb at (length x) ≡ t → at < length x) at (length x) (λ k e. k) (λ k e. absurd (let z = get_or-eq_default x 0 {n = at} k in omega arith)) refl

some_digit : (b d : ℕ) → digit_of b ≡ Some d → 0 < b
unfolding digit_of
some_digit zero d h = absurd (cc)
some_digit (suc b) d h = omega arith

-- the number at a place, from its first digit on
module _ (x : List ℕ) (at d : ℕ) (f : digit_of (get_or x at 0) ≡ Some d) where
  at_within : at < length x
  at_within = some_byte x at (some_digit (get_or x at 0) d f)

  one-digit : numeral 16 d ≡ get_or x at 0 ∷ []
  one-digit = let g = digit_is (get_or x at 0) d f in numeral-last 16 d g.1 ∙ ap (λ (g : ℕ). g ∷ []) g.0

  start : (o : Number) → Reads (drop (at + 1) x) (at + 1) d o → NumberIs x at o
  start None i = tt
  start (Some r) i =
      let n = r.1 in
      let l = at_within in
      let a = i.0 in
      let k = rw (length-drop (at + 1) x) at i.1 in
      let e : n - at ≡ suc (n - (at + 1)) = omega arith in (
        omega arith,
        omega arith,
        i.2
            ∙ ap (λ (t : List ℕ). t ++ take (n - (at + 1)) (drop (at + 1) x)) one-digit
            ∙ rw (e, drop-cons x at 0 l, add-one at),
      )

  zero_is : d ≡ 0 → NumberIs x at (Some (0, at + 1))
  zero_is z =
      let l = at_within in
      let e : at + 1 - at ≡ 1 = omega arith in
      (omega arith, omega arith, ap (λ (k : ℕ). numeral 16 k) (sym z) ∙ one-digit ∙ rw (e, drop-cons x at 0 l))

  first : (top : ℕ) → digits_from top 0 at (drop at x) ≡ pick (leb d top) (digits_from top d (at + 1) (drop (at + 1) x)) None
  unfolding digits_from
  first top = ap (λ (l : List ℕ). digits_from top 0 at l) (drop-cons x at 0 at_within) ∙ rw (f, zero-add d, add-one at)

  rest_is : (top : ℕ) → (d ≡ 0 → ⊥) → NumberIs x at (digits_from top 0 at (drop at x))
  rest_is top z =
      rw (first top)
      (by_pick (λ (r : Number). NumberIs x at r) (leb d top) _ _
      (λ k. let n = z in start (digits_from top d (at + 1) (drop (at + 1) x)) (digits_read (drop (at + 1) x) top d (at + 1) (omega arith))) (λ k. tt))

number_is : (x : List ℕ) (top at : ℕ) → NumberIs x at (number_at x top at)
unfolding number_at
number_is x top at =
    by_some (λ (r : Number). NumberIs x at r) (digit_of (get_or x at 0)) _ tt
    (λ d e. by_pick (λ (r : Number). NumberIs x at r) (eqb d 0) _ _ (λ k. zero_is x at d e (eqb-true d 0 k)) (λ k. rest_is x at d e top (eqb-false d 0 k)))

-- ---- a field, as it stands
abbrev FieldIs : List ℕ → ℕ → ℕ → Number → Type 0
FieldIs x sep at o = IfSome o (λ r. (r.1 ≡ at + length (numeral 16 r.0) + 1) × (drop at x ≡ numeral 16 r.0 ++ (sep ∷ drop r.1 x)))

field_ends : (x : List ℕ) (sep at v n : ℕ) → 0 < sep → NumberIs x at (Some (v, n)) → get_or x n 0 ≡ sep → FieldIs x sep at (Some (v, n + 1))
field_ends x sep at v n s i e =
    let l = some_byte x n (omega arith) in
    let a = i.0 in
    let q : at + (n - at) ≡ n = omega arith in
    let w : length (numeral 16 v) ≡ n - at = ap length i.2 ∙ length-take-le (n - at) (drop at x) (rw length-drop (omega arith)) in (
      omega arith,
      sym (take-append-drop (n - at) (drop at x))
          ∙ ap (λ (t : List ℕ). t ++ drop (n - at) (drop at x)) (sym i.2)
          ∙ ap (λ (t : List ℕ). numeral 16 v ++ t) (drop-drop (n - at) at x ∙ ap (λ (k : ℕ). drop k x) q ∙ drop-cons x n 0 l ∙ rw (e, ← add-one n)),
    )

field-on : (x : List ℕ) (top sep at : ℕ) → 0 < sep → FieldIs x sep at (field_at x top sep at)
unfolding field_at
field-on x top sep at s =
    by_some (λ (o : Number). FieldIs x sep at o) (number_at x top at) _ tt
    (λ r e. by_pick (λ (o : Number). FieldIs x sep at o) (eqb (get_or x r.1 0) sep) _ _
    (λ k. field_ends x sep at r.0 r.1 s (subst (λ (o : Number). NumberIs x at o) e (number_is x top at)) (eqb-true (get_or x r.1 0) sep k)) (λ k. tt))

-- a field that is read is the numeral of a number within its bits, and the byte that ends it
pub field_is :
    (x : List ℕ) (top sep at : ℕ) (r : ℕ × ℕ) → 0 < sep → field_at x top sep at ≡ Some r →
    (r.0 ≤ top) × (r.1 ≡ at + length (numeral 16 r.0) + 1) × (drop at x ≡ numeral 16 r.0 ++ (sep ∷ drop r.1 x))
field_is x top sep at r s e =
    let i : FieldIs x sep at (Some r) = subst (λ (o : Number). FieldIs x sep at o) e (field-on x top sep at s) in
    (within x top sep at r e, i.0, i.1)

-- ---- a numeral is read
module _ (top : ℕ) where
  digit-next : (v at d : ℕ) (l : List ℕ) → d < 16 → v * 16 + d ≤ top → digits_from top v at (glyph d ∷ l) ≡ digits_from top (v * 16 + d) (at + 1) l
  unfolding digits_from
  digit-next v at d l h k = rw (digit_glyph d h, le-leb (v * 16 + d) top k)

  digits_back :
      (m w at : ℕ) (l : List ℕ) → w < m → w ≤ top → digits_from top 0 at (numeral 16 w ++ l) ≡ digits_from top w (at + length (numeral 16 w)) l
  digits_back zero w at l h k = absurd (omega arith)
  digits_back (suc m) w at l h k = go (ltb w 16) refl (λ u p q. digits_back m (w / 16) at u p q)
    where
      go :
          (t : Bool) → ltb w 16 ≡ t →
          ((u : List ℕ) → w / 16 < m → w / 16 ≤ top → digits_from top 0 at (numeral 16 (w / 16) ++ u) ≡ digits_from top (w / 16) (at + length (numeral 16 (w / 16))) u) →
          digits_from top 0 at (numeral 16 w ++ l) ≡ digits_from top w (at + length (numeral 16 w)) l
      go true e f =
          let p = ltb-true w 16 e in
          rw (numeral-last 16 w p) (digit-next 0 at w l p (omega arith) ∙ rw (zero-add w))
      go false e f =
          let p = ltb-false w 16 e in
          let q : w / 16 * 16 + w % 16 ≡ w = omega arith in
          rw (numeral-more 16 w (omega arith) p, append_assoc, length-append)
          (f (glyph (w % 16) ∷ l) (omega arith) (omega arith)
          ∙ digit-next (w / 16) (at + length (numeral 16 (w / 16))) (w % 16) l (omega arith) (omega arith)
          ∙ rw (q, add_assoc))

  digits_stop : (w at sep : ℕ) (l : List ℕ) → digit_of sep ≡ None → digits_from top w at (sep ∷ l) ≡ Some (w, at)
  unfolding digits_from
  digits_stop w at sep l e = rw e

-- a number above 0 begins with a digit other than 0
abbrev Begins : List ℕ → Type 0
Begins l = (d : ℕ) × (0 < d) × (digit_of (get_or l 0 0) ≡ Some d)

head_digit : (m w : ℕ) (l : List ℕ) → w < m → 0 < w → Begins (numeral 16 w ++ l)
head_digit zero w l h k = absurd (omega arith)
head_digit (suc m) w l h k = go (ltb w 16) refl (λ u p q. head_digit m (w / 16) u p q)
  where
    go : (t : Bool) → ltb w 16 ≡ t → ((u : List ℕ) → w / 16 < m → 0 < w / 16 → Begins (numeral 16 (w / 16) ++ u)) → Begins (numeral 16 w ++ l)
    go true e f = let p = ltb-true w 16 e in rw (numeral-last 16 w p) (w, k, digit_glyph w p)
    go false e f =
        let p = ltb-false w 16 e in
        rw (numeral-more 16 w (omega arith) p, append_assoc) (f (glyph (w % 16) ∷ l) (omega arith) (omega arith))

module _ (x : List ℕ) (top sep at w : ℕ) (r : List ℕ) (f : drop at x ≡ numeral 16 w ++ (sep ∷ r)) where
  head_at : get_or x at 0 ≡ get_or (numeral 16 w ++ (sep ∷ r)) 0 0
  head_at = sym (ap (λ (l : List ℕ). get_or l 0 0) (sym f) ∙ get_or-drop at x 0 0 ∙ rw (add-zero at))

  number_zero : w ≡ 0 → number_at x top at ≡ Some (w, at + length (numeral 16 w))
  unfolding number_at
  number_zero z =
      let h : digit_of (get_or x at 0) ≡ Some 0 = ap digit_of (head_at ∙ rw (z, numeral-last 16 0 (omega arith))) ∙ digit_glyph 0 (omega arith) in
      rw (h, z, numeral-last 16 0 (omega arith))

  number_more : 0 < w → w ≤ top → digit_of sep ≡ None → number_at x top at ≡ Some (w, at + length (numeral 16 w))
  unfolding number_at
  number_more h k s =
      let d = head_digit (suc w) w (sep ∷ r) (omega arith) h in
      let p = d.1 in
      let g : digit_of (get_or x at 0) ≡ Some d.0 = ap digit_of head_at ∙ d.2 in
      rw (g, ne_eqb d.0 0 (λ e. omega arith), f)
      (digits_back top (suc w) w at (sep ∷ r) (omega arith) k ∙ digits_stop top w (at + length (numeral 16 w)) sep r s)

  number_back : w ≤ top → digit_of sep ≡ None → number_at x top at ≡ Some (w, at + length (numeral 16 w))
  number_back k s = below (λ t. ltb 0 w ≡ t → number_at x top at ≡ Some (w, at + length (numeral 16 w))) 0 w (λ h e. number_more h k s) (λ h e. number_zero (omega arith)) refl

  -- the byte that ends it
  end_at : get_or x (at + length (numeral 16 w)) 0 ≡ sep
  end_at = sym (get_or-drop at x (length (numeral 16 w)) 0) ∙ ap (λ (l : List ℕ). get_or l (length (numeral 16 w)) 0) f ∙ get_or_at (numeral 16 w) sep r 0 (length (numeral 16 w)) refl

  -- the numeral of a number within the bits, and a byte that is no digit, are read
  pub field_back : w ≤ top → digit_of sep ≡ None → field_at x top sep at ≡ Some (w, at + length (numeral 16 w) + 1)
  unfolding field_at
  field_back k s = rw (number_back k s, end_at, eq-eqb sep sep refl)
