-- Values as bytes of one fixed width, and how such formats are put together.
-- Assumes nothing.
use Rattle.std.specs.Prelude.{ℕ, zero, suc, ◌+◌, ◌-◌, ◌*◌, Bool, true, ◌&&◌, List, [], ◌∷◌, ◌++◌, eqb, leb, length, take, drop, get_or}
use Rattle.area.specs.Pick.{pick}
use Rattle.area.specs.Bytes.{le, num}
use Rattle.area.specs.Splice.{padded}
use Rattle.area.specs.Zero.{all_zero}

-- how a value is put as bytes, got from the head of some bytes, and whether a value stands there
pub record Codec (A : Type 0) : Type 0 where
  pub width : ℕ
  pub put : A → List ℕ
  pub get : List ℕ → A
  pub ok : List ℕ → Bool

-- one byte
unfoldable pub byte : Codec ℕ
byte = record { width = 1; put = λ b. b ∷ []; get = λ l. get_or l 0 0; ok = λ l. true }

-- a number of k bytes, the low one first
unfoldable pub number : ℕ → Codec ℕ
number k = record { width = k; put = le k; get = num k 0; ok = λ l. true }

-- no byte
unfoldable pub nothing : Codec (Unit {0})
nothing = record { width = 0; put = λ u. []; get = λ l. tt; ok = λ l. true }

-- one behind the other
unfoldable pub pair : {A B : Type 0} → Codec A → Codec B → Codec (A × B)
pair X Y =
    record {
      width = X.width + Y.width;
      put = λ p. X.put p.0 ++ Y.put p.1;
      get = λ l. (X.get l, Y.get (drop X.width l));
      ok = λ l. X.ok l && Y.ok (drop X.width l);
    }

-- only values that pass a test
unfoldable pub checked : {A : Type 0} → (A → Bool) → Codec A → Codec A
checked test X = record { width = X.width; put = X.put; get = X.get; ok = λ l. X.ok l && test (X.get l) }

-- the same bytes for values of another type
unfoldable pub via : {A B : Type 0} → (B → A) → (A → B) → Codec A → Codec B
via to from X = record { width = X.width; put = λ b. X.put (to b); get = λ l. from (X.get l); ok = X.ok }

-- zeros behind, up to w bytes
unfoldable pub slot : {A : Type 0} → ℕ → Codec A → Codec A
slot w X =
    record {
      width = w;
      put = λ a. padded w (X.put a);
      get = X.get;
      ok = λ l. X.ok l && all_zero (take (w - X.width) (drop X.width l));
    }

-- one of two, told apart by a byte
pub data Either (A B : Type 0) : Type 0 where
  left : A → Either A B
  right : B → Either A B

abbrev pub put_either : {A B : Type 0} → Codec A → Codec B → Either A B → List ℕ
put_either X Y (left a) = 0 ∷ X.put a
put_either X Y (right b) = 1 ∷ Y.put b

unfoldable pub either : {A B : Type 0} → Codec A → Codec B → Codec (Either A B)
either X Y =
    record {
      width = suc X.width;
      put = put_either X Y;
      get = λ l. pick (eqb (get_or l 0 0) 0) (left (X.get (drop 1 l))) (right (Y.get (drop 1 l)));
      ok = λ l. pick (eqb (get_or l 0 0) 0) (X.ok (drop 1 l)) (eqb (get_or l 0 0) 1 && Y.ok (drop 1 l));
    }

-- values one behind the other
unfoldable pub put_many : {A : Type 0} → Codec A → List A → List ℕ
put_many X [] = []
put_many X (a ∷ r) = X.put a ++ put_many X r

unfoldable pub get_many : {A : Type 0} → Codec A → ℕ → List ℕ → List A
get_many X zero l = []
get_many X (suc n) l = X.get l ∷ get_many X n (drop X.width l)

unfoldable pub ok_many : {A : Type 0} → Codec A → ℕ → List ℕ → Bool
ok_many X zero l = true
ok_many X (suc n) l = X.ok l && ok_many X n (drop X.width l)

-- a count of k bytes, so many values, at most n, and zeros in place of those that there are not
unfoldable pub list_of : {A : Type 0} → ℕ → ℕ → Codec A → Codec (List A)
list_of k n X =
    record {
      width = k + n * X.width;
      put = λ l. le k (length l) ++ padded (n * X.width) (put_many X l);
      get = λ l. get_many X (num k 0 l) (drop k l);
      ok = λ l. leb (num k 0 l) n && (ok_many X (num k 0 l) (drop k l) && all_zero (take ((n - num k 0 l) * X.width) (drop (k + num k 0 l * X.width) l)));
    }
