-- The laws of the formats, once for each way to put them together: a value that fits is got back, and bytes that pass are put again.
-- Assumes nothing.
use mathlib.Core.Path.{◌≡◌, refl, sym, ap, ◌∙◌}
use mathlib.Core.Bool.{Bool, true, ◌&&◌, and-eq-true_iff}
use mathlib.Core.List.{List, [], ◌∷◌, ◌++◌, append_assoc, append-nil}
use Prim.Native.Nat.{ℕ, zero, suc, ◌+◌, ◌-◌, ◌*◌, ◌^◌, ◌≤◌, ◌<◌, zero-le}
use native.Mathlib.Nat.{add-mul, zero-mul, suc-mul, mul-le-mul_right, add-sub_of_le}
use native.Mathlib.Omega.{arith}
use lib.Dec.{eqb, leb, eqb-suc-zero}
use lib.ListN.{length, take, drop, get_or, replicate, length-append, length-drop, length-replicate, drop_of_length-le, take-append-drop, replicate-append-replicate}
use lib.Seq.{drop_at, take_at, drop-drop, length-take-le}
use borrow.Author.Tests.{eqb-true, le-leb, leb-true}
use Rattle.area.specs.Bytes.{Bytes, le, num}
use Rattle.area.specs.Splice.{padded}
use Rattle.area.specs.Zero.{all_zero}
use Rattle.area.proofs.Bytes.{length-le, num-le, le-num, num_below, bytes_drop}
use Rattle.area.proofs.Splice.{length-padded}
use Rattle.session.specs.Codec.{Codec, byte, number, nothing, pair, checked, via, slot, Either, left, right, either, put_many, get_many, ok_many, list_of}

-- X is a format of the values that are in F
pub record Sound {A : Type 0} (X : Codec A) (F : A → Type 0) : Type 0 where
  -- each takes the width
  pub sized : (a : A) → F a → length (X.put a) ≡ X.width
  -- each is got back, whatever stands behind it
  pub back : (a : A) (r : List ℕ) → F a → (X.ok (X.put a ++ r) ≡ true) × (X.get (X.put a ++ r) ≡ a)
  -- bytes that pass are those of a value in F
  pub exact : (l : List ℕ) → Bytes l → X.width ≤ length l → X.ok l ≡ true → (X.put (X.get l) ++ drop X.width l ≡ l) × F (X.get l)

-- the same values, told in another way
pub sound_as :
    {A : Type 0} {X : Codec A} {F G : A → Type 0} → Sound X F → ((a : A) → G a → F a) → ((a : A) → F a → G a) → Sound X G
sound_as {X} x f g =
    record {
      sized = λ a h. x.sized a (f a h);
      back = λ a r h. x.back a r (f a h);
      exact = λ l b h o. let e = x.exact l b h o in (e.0, g (X.get l) e.1);
    }

-- ---- one value

byte_again : (l : List ℕ) → Bytes l → 1 ≤ length l → (get_or l 0 0 ∷ drop 1 l ≡ l) × (get_or l 0 0 < 256)
byte_again [] b h = absurd (omega arith)
byte_again (x ∷ l) b h = (refl, b.0)

pub byte-sound : Sound byte (λ b. b < 256)
unfolding byte
byte-sound = record { sized = λ a h. refl; back = λ a r h. (refl, refl); exact = λ l b h o. byte_again l b h }

pub number-sound : (k : ℕ) → Sound (number k) (λ v. v < 256 ^ k)
unfolding number
number-sound k =
    record {
      sized = λ v h. length-le k v;
      back = λ v r h. (refl, num-le k v r h);
      exact = λ l b h o. (le-num k l b h, num_below k l b);
    }

pub nothing-sound : Sound nothing (λ u. Unit {0})
unfolding nothing
nothing-sound = record { sized = λ u h. refl; back = λ u r h. (refl, refl); exact = λ l b h o. (refl, tt) }

-- ---- one behind the other

module _ {A B : Type 0} {X : Codec A} {Y : Codec B} {F : A → Type 0} {G : B → Type 0} (x : Sound X F) (y : Sound Y G) where
  pair_back :
      (p : A × B) (r : List ℕ) → F p.0 × G p.1 →
      ((pair X Y).ok ((pair X Y).put p ++ r) ≡ true) × ((pair X Y).get ((pair X Y).put p ++ r) ≡ p)
  unfolding pair
  pair_back p r h =
      let a = x.back p.0 (Y.put p.1 ++ r) h.0 in
      let b = y.back p.1 r h.1 in
      let d = drop_at (X.put p.0) (Y.put p.1 ++ r) X.width (x.sized p.0 h.0) in
      rw (append_assoc, d, a.0, a.1, b.0, b.1) (refl, refl)

  pair_exact :
      (l : List ℕ) → Bytes l → (pair X Y).width ≤ length l → (pair X Y).ok l ≡ true →
      ((pair X Y).put ((pair X Y).get l) ++ drop (pair X Y).width l ≡ l) × (F ((pair X Y).get l).0 × G ((pair X Y).get l).1)
  unfolding pair
  pair_exact l b h o =
      let t = (and-eq-true_iff (X.ok l) (Y.ok (drop X.width l))).0 o in
      let a = x.exact l b (omega arith) t.0 in
      let c = y.exact (drop X.width l) (bytes_drop X.width l b) (omega (arith, length-drop X.width l)) t.1 in
      (rw (append_assoc, ← drop-drop Y.width X.width l, c.0) a.0, (a.1, c.1))

  pub pair-sound : Sound (pair X Y) (λ p. F p.0 × G p.1)
  unfolding pair
  pair-sound =
      record {
        sized = λ p h. length-append (X.put p.0) (Y.put p.1) ∙ rw (x.sized p.0 h.0, y.sized p.1 h.1);
        back = pair_back;
        exact = pair_exact;
      }

-- ---- a test, another type

module _ {A : Type 0} (test : A → Bool) {X : Codec A} {F : A → Type 0} (x : Sound X F) where
  pub checked-sound : Sound (checked test X) (λ a. F a × (test a ≡ true))
  unfolding checked
  checked-sound =
      record {
        sized = λ a h. x.sized a h.0;
        back = λ a r h. let b = x.back a r h.0 in (rw (b.0, b.1) h.1, b.1);
        exact = λ l b h o.
            let t = (and-eq-true_iff (X.ok l) (test (X.get l))).0 o in
            let e = x.exact l b h t.0 in
            (e.0, (e.1, t.1));
      }

module _
    {A B : Type 0} (to : B → A) (from : A → B) {X : Codec A} {F : A → Type 0} {G : B → Type 0} (x : Sound X F)
    (there : (b : B) → G b → F (to b) × (from (to b) ≡ b)) (here : (a : A) → F a → G (from a) × (to (from a) ≡ a)) where
  pub via-sound : Sound (via to from X) G
  unfolding via
  via-sound =
      record {
        sized = λ b g. x.sized (to b) (there b g).0;
        back = λ b r g. let t = there b g in let e = x.back (to b) r t.0 in (e.0, ap from e.1 ∙ t.1);
        exact = λ l b h o.
            let e = x.exact l b h o in
            let t = here (X.get l) e.1 in
            (ap (λ (a : A). X.put a ++ drop X.width l) t.1 ∙ e.0, t.0);
      }

-- ---- zeros behind

zeros_pass : (n : ℕ) → all_zero (replicate n 0) ≡ true
unfolding all_zero
zeros_pass zero = refl
zeros_pass (suc n) = zeros_pass n

zeros_are : (l : List ℕ) → all_zero l ≡ true → l ≡ replicate (length l) 0
unfolding all_zero
zeros_are [] e = refl
zeros_are (b ∷ l) e =
    let t = (and-eq-true_iff (eqb b 0) (all_zero l)).0 e in
    let z = eqb-true b 0 t.0 in
    rw (z, ← zeros_are l t.1)

-- n bytes behind the first m, where they are zeros
fill : (m n : ℕ) (l : List ℕ) → m + n ≤ length l → all_zero (take n (drop m l)) ≡ true → replicate n 0 ++ drop (m + n) l ≡ drop m l
fill m n l h e =
    let d = length-drop m l in
    let s : length (take n (drop m l)) ≡ n = length-take-le n (drop m l) (omega arith) in
    let z : take n (drop m l) ≡ replicate n 0 = zeros_are (take n (drop m l)) e ∙ ap (λ (k : ℕ). replicate k 0) s in
    rw (← z, ← drop-drop n m l) (take-append-drop n (drop m l))

-- the bytes of p, zeros, and what stands behind
padded_as : (w m : ℕ) (p r : List ℕ) → length p ≡ m → padded w p ++ r ≡ p ++ (replicate (w - m) 0 ++ r)
unfolding padded
padded_as w m p r e = rw (append_assoc, e)

pub slot-width : {A : Type 0} (w : ℕ) (X : Codec A) → (slot w X).width ≡ w
unfolding slot
slot-width w X = refl

module _ {A : Type 0} (w : ℕ) {X : Codec A} {F : A → Type 0} (h : X.width ≤ w) (x : Sound X F) where
  slot_back : (a : A) (r : List ℕ) → F a → ((slot w X).ok ((slot w X).put a ++ r) ≡ true) × ((slot w X).get ((slot w X).put a ++ r) ≡ a)
  unfolding slot
  slot_back a r f =
      let z = replicate {A = ℕ} (w - X.width) 0 in
      let s = x.sized a f in
      let b = x.back a (z ++ r) f in
      let d = drop_at (X.put a) (z ++ r) X.width s in
      let t = take_at z r (w - X.width) (length-replicate (w - X.width) 0) in
      rw (padded_as w X.width (X.put a) r s, b.0, b.1, d, t) (zeros_pass (w - X.width), refl)

  slot_exact :
      (l : List ℕ) → Bytes l → w ≤ length l → (slot w X).ok l ≡ true →
      ((slot w X).put (X.get l) ++ drop w l ≡ l) × F (X.get l)
  unfolding slot
  slot_exact l b g o =
      let t = (and-eq-true_iff (X.ok l) (all_zero (take (w - X.width) (drop X.width l)))).0 o in
      let e = x.exact l b (omega arith) t.0 in
      let s = x.sized (X.get l) e.1 in
      let n : X.width + (w - X.width) ≡ w = omega arith in
      let f = rw n at (fill X.width (w - X.width) l (omega arith) t.1) in
      (rw (padded_as w X.width (X.put (X.get l)) (drop w l) s, f) e.0, e.1)

  pub slot-sound : Sound (slot w X) F
  unfolding slot
  slot-sound =
      record { sized = λ a f. length-padded w (X.put a) (omega (arith, x.sized a f)); back = slot_back; exact = slot_exact }

-- ---- one of two

abbrev pub OneOf : {A B : Type 0} → (A → Type 0) → (B → Type 0) → Either A B → Type 0
OneOf F G (left a) = F a
OneOf F G (right b) = G b

module _ {A B : Type 0} {X : Codec A} {Y : Codec B} {F : A → Type 0} {G : B → Type 0} (w : X.width ≡ Y.width) (x : Sound X F) (y : Sound Y G) where
  either-sized : (e : Either A B) → OneOf F G e → length ((either X Y).put e) ≡ (either X Y).width
  unfolding either
  either-sized (left a) f = ap suc (x.sized a f)
  either-sized (right b) g = ap suc (y.sized b g ∙ sym w)

  either_back :
      (e : Either A B) (r : List ℕ) → OneOf F G e →
      ((either X Y).ok ((either X Y).put e ++ r) ≡ true) × ((either X Y).get ((either X Y).put e ++ r) ≡ e)
  unfolding either
  either_back (left a) r f = let b = x.back a r f in (b.0, ap {B = Either A B} (λ z. left z) b.1)
  either_back (right a) r f = let b = y.back a r f in (b.0, ap {B = Either A B} (λ z. right z) b.1)

  either_exact :
      (l : List ℕ) → Bytes l → (either X Y).width ≤ length l → (either X Y).ok l ≡ true →
      ((either X Y).put ((either X Y).get l) ++ drop (either X Y).width l ≡ l) × OneOf F G ((either X Y).get l)
  unfolding either
  either_exact [] b h o = absurd (omega arith)
  either_exact (zero ∷ l) b h o =
      let e = x.exact l b.1 (omega arith) o in (ap (λ (t : List ℕ). 0 ∷ t) e.0, e.1)
  either_exact (suc n ∷ l) b h o =
      let f = eqb-suc-zero n in
      let t = (and-eq-true_iff (eqb (suc n) 1) (Y.ok l)).0 (rw f at o) in
      let z : suc n ≡ 1 = eqb-true (suc n) 1 t.0 in
      let e = y.exact l b.1 (omega arith) t.1 in
      rw (f, w) (ap (λ (t : List ℕ). 1 ∷ t) e.0 ∙ ap (λ (k : ℕ). k ∷ l) (sym z), e.1)

  pub either-sound : Sound (either X Y) (OneOf F G)
  either-sound = record { sized = either-sized; back = either_back; exact = either_exact }

-- ---- values one behind the other

abbrev pub All : {A : Type 0} → (A → Type 0) → List A → Type 0
All F [] = Unit {0}
All F (a ∷ r) = F a × All F r

module _ {A : Type 0} (X : Codec A) where
  pub many_count : (n : ℕ) (l : List ℕ) → length (get_many X n l) ≡ n
  unfolding get_many
  many_count zero l = refl
  many_count (suc n) l = ap suc (many_count n (drop X.width l))

  module _ {F : A → Type 0} (x : Sound X F) where
    pub many_sized : (s : List A) → All F s → length (put_many X s) ≡ length s * X.width
    unfolding put_many
    many_sized [] h = sym (zero-mul X.width)
    many_sized (a ∷ s) h =
        length-append (X.put a) (put_many X s) ∙ omega (arith, x.sized a h.0, many_sized s h.1, suc-mul (length s) X.width)

    many_back :
        (s : List A) (r : List ℕ) → All F s →
        (ok_many X (length s) (put_many X s ++ r) ≡ true) × (get_many X (length s) (put_many X s ++ r) ≡ s)
    unfolding put_many get_many ok_many
    many_back [] r h = (refl, refl)
    many_back (a ∷ s) r h =
        let b = x.back a (put_many X s ++ r) h.0 in
        let d = drop_at (X.put a) (put_many X s ++ r) X.width (x.sized a h.0) in
        let m = many_back s r h.1 in
        rw (append_assoc, d, b.0, b.1, m.0, m.1) (refl, refl)

    many_exact :
        (n : ℕ) (l : List ℕ) → Bytes l → n * X.width ≤ length l → ok_many X n l ≡ true →
        (put_many X (get_many X n l) ++ drop (n * X.width) l ≡ l) × All F (get_many X n l)
    unfolding put_many get_many ok_many
    many_exact zero l b h o = (rw zero-mul, tt)
    many_exact (suc n) l b h o =
        let w = X.width in
        let z : suc n * w ≡ w + n * w = omega (arith, suc-mul n w) in
        let t = (and-eq-true_iff (X.ok l) (ok_many X n (drop w l))).0 o in
        let e = x.exact l b (omega arith) t.0 in
        let m = many_exact n (drop w l) (bytes_drop w l b) (omega (arith, length-drop w l)) t.1 in
        (rw (append_assoc, z, ← drop-drop (n * w) w l, m.0) e.0, (e.1, m.1))

-- m of n widths, and the rest
pub rest : (m n w : ℕ) → m ≤ n → m * w + (n - m) * w ≡ n * w
rest m n w h = sym (add-mul m (n - m) w) ∙ ap (λ (k : ℕ). k * w) (add-sub_of_le h)

module _ {A : Type 0} (k n : ℕ) {X : Codec A} {F : A → Type 0} (q : n < 256 ^ k) (x : Sound X F) where
  -- the count, the values, the zeros, and what stands behind
  pub list_as :
      (s : List A) (r : List ℕ) → length s ≤ n → All F s →
      (list_of k n X).put s ++ r ≡ le k (length s) ++ (put_many X s ++ (replicate ((n - length s) * X.width) 0 ++ r))
  unfolding list_of
  list_as s r h f =
      let w = X.width in
      let z : n * w - length s * w ≡ (n - length s) * w = omega (arith, rest (length s) n w h) in
      rw (append_assoc, padded_as (n * w) (length s * w) (put_many X s) r (many_sized X x s f), z)

  pub list_sized : (s : List A) → (length s ≤ n) × All F s → length ((list_of k n X).put s) ≡ (list_of k n X).width
  unfolding list_of
  list_sized s h =
      let w = X.width in
      let p = length-padded (n * w) (put_many X s) (omega (arith, many_sized X x s h.1, mul-le-mul_right w h.0)) in
      length-append (le k (length s)) (padded (n * w) (put_many X s)) ∙ rw (length-le k (length s), p)

  list_back :
      (s : List A) (r : List ℕ) → (length s ≤ n) × All F s →
      ((list_of k n X).ok ((list_of k n X).put s ++ r) ≡ true) × ((list_of k n X).get ((list_of k n X).put s ++ r) ≡ s)
  unfolding list_of
  list_back s r h =
      let w = X.width in
      let m = length s in
      let g = (n - m) * w in
      let z = replicate {A = ℕ} g 0 in
      let p = put_many X s in
      let y = le k m ++ (p ++ (z ++ r)) in
      let b = many_back X x s (z ++ r) h.1 in
      let c : num k 0 y ≡ m = num-le k m (p ++ (z ++ r)) (omega arith) in
      let d : drop k y ≡ p ++ (z ++ r) = drop_at (le k m) (p ++ (z ++ r)) k (length-le k m) in
      let e : drop (k + m * w) y ≡ z ++ r =
      sym (drop-drop (m * w) k y) ∙ ap (λ (t : List ℕ). drop (m * w) t) d ∙ drop_at p (z ++ r) (m * w) (many_sized X x s h.1) in
      let t = take_at z r g (length-replicate g 0) in
      rw (list_as s r h.0 h.1, c, d, e, t, b.0, b.1, le-leb m n h.0) (zeros_pass g, refl)

  list_exact :
      (l : List ℕ) → Bytes l → (list_of k n X).width ≤ length l → (list_of k n X).ok l ≡ true →
      ((list_of k n X).put ((list_of k n X).get l) ++ drop (list_of k n X).width l ≡ l) × ((length ((list_of k n X).get l) ≤ n) × All F ((list_of k n X).get l))
  unfolding list_of
  list_exact l b h o =
      let w = X.width in
      let m = num k 0 l in
      let g = (n - m) * w in
      let s = get_many X m (drop k l) in
      let t = (and-eq-true_iff (leb m n) (ok_many X m (drop k l) && all_zero (take g (drop (k + m * w) l)))).0 o in
      let u = (and-eq-true_iff (ok_many X m (drop k l)) (all_zero (take g (drop (k + m * w) l)))).0 t.1 in
      let i = leb-true m n t.0 in
      let v = rest m n w i in
      let c = many_exact X x m (drop k l) (bytes_drop k l b) (omega (arith, length-drop k l)) u.0 in
      let e : length s ≡ m = many_count X m (drop k l) in
      let j : length s ≤ n = omega arith in
      let d : k + m * w + g ≡ k + n * w = omega arith in
      let f = rw d at (fill (k + m * w) g l (omega arith) u.1) in
      (list_as s (drop (k + n * w) l) j c.1 ∙ rw (e, f, ← drop-drop (m * w) k l, c.0) (le-num k l b (omega arith)), (j, c.1))

  pub list_sound : Sound (list_of k n X) (λ s. (length s ≤ n) × All F s)
  list_sound = record { sized = list_sized; back = list_back; exact = list_exact }

-- ---- a format that fills an area: nothing stands behind

module _ {A : Type 0} {X : Codec A} {F : A → Type 0} (x : Sound X F) where
  pub whole_back : (a : A) → F a → (length (X.put a) ≡ X.width) × (X.ok (X.put a) ≡ true) × (X.get (X.put a) ≡ a)
  whole_back a f = let b = rw append-nil at (x.back a [] f) in (x.sized a f, b.0, b.1)

  pub whole_exact : (l : List ℕ) → Bytes l → length l ≡ X.width → X.ok l ≡ true → F (X.get l) × (X.put (X.get l) ≡ l)
  whole_exact l b h o =
      let e = x.exact l b (omega arith) o in
      let d : drop X.width l ≡ [] = drop_of_length-le l {i = X.width} (omega arith) in
      (e.1, sym (append-nil (X.put (X.get l))) ∙ ap (λ (t : List ℕ). X.put (X.get l) ++ t) (sym d) ∙ e.0)

-- ---- values whose bytes are zeros

abbrev pub Zeros : {A : Type 0} → Codec A → A → Type 0
Zeros X a = X.put a ≡ replicate X.width 0

pub number_zeros : (k : ℕ) → Zeros (number k) 0
unfolding number le
number_zeros zero = refl
number_zeros (suc k) = ap (λ (t : List ℕ). 0 ∷ t) (number_zeros k)

pub nothing_zeros : Zeros nothing tt
unfolding nothing
nothing_zeros = refl

pub pair_zeros : {A B : Type 0} (X : Codec A) (Y : Codec B) (a : A) (b : B) → Zeros X a → Zeros Y b → Zeros (pair X Y) (a, b)
unfolding pair
pair_zeros X Y a b x y = rw (x, y) (replicate-append-replicate X.width Y.width 0)

pub via_zeros : {A B : Type 0} (to : B → A) (from : A → B) (X : Codec A) (b : B) → Zeros X (to b) → Zeros (via to from X) b
unfolding via
via_zeros to from X b x = x

padded_zeros : (w m : ℕ) → m ≤ w → padded w (replicate m 0) ≡ replicate w 0
unfolding padded
padded_zeros w m h =
    let l : length (replicate {A = ℕ} m 0) ≡ m = length-replicate m 0 in
    rw (l, replicate-append-replicate {A = ℕ} m (w - m) 0, add-sub_of_le h)

pub slot_zeros : {A : Type 0} (w : ℕ) (X : Codec A) (a : A) → X.width ≤ w → Zeros X a → Zeros (slot w X) a
unfolding slot
slot_zeros w X a h x = rw x (padded_zeros w X.width h)

pub left_zeros : {A B : Type 0} (X : Codec A) (Y : Codec B) (a : A) → Zeros X a → Zeros (either X Y) (left a)
unfolding either
left_zeros X Y a x = ap (λ (t : List ℕ). 0 ∷ t) x

pub list_zeros : {A : Type 0} (k n : ℕ) (X : Codec A) → Zeros (list_of k n X) []
unfolding list_of put_many number
list_zeros k n X = rw (number_zeros k, padded_zeros (n * X.width) 0 zero-le) (replicate-append-replicate k (n * X.width) 0)

-- ---- bytes one behind the other are themselves

pub bytes-put : (l : List ℕ) → put_many byte l ≡ l
unfolding put_many byte
bytes-put [] = refl
bytes-put (b ∷ l) = ap (λ (t : List ℕ). b ∷ t) (bytes-put l)

pub bytes_got : (n : ℕ) (l : List ℕ) → n ≤ length l → get_many byte n l ≡ take n l
unfolding get_many byte
bytes_got zero l h = refl
bytes_got (suc n) [] h = absurd (omega arith)
bytes_got (suc n) (b ∷ l) h = ap (λ (t : List ℕ). b ∷ t) (bytes_got n l (omega arith))

pub bytes_pass : (n : ℕ) (l : List ℕ) → ok_many byte n l ≡ true
unfolding ok_many byte
bytes_pass zero l = refl
bytes_pass (suc n) l = bytes_pass n (drop 1 l)
