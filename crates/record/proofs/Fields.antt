-- The fields of the records, each in plain terms: which bytes it reads, and what the test of them is.
-- Assumes nothing.
use mathlib.Core.Path.{◌≡◌, refl, sym, ap, ◌∙◌}
use mathlib.Core.Bool.{Bool, true, false, ◌&&◌, and-eq-true_iff}
use mathlib.Core.List.{List}
use Prim.Native.Nat.{ℕ, zero, suc, ◌+◌, ◌-◌, ◌*◌, ◌≤◌}
use native.Mathlib.Nat.{add-zero}
use native.Mathlib.Omega.{arith}
use lib.Dec.{eqb, ltb, leb}
use lib.ListN.{length, take, drop, get_or, length-drop}
use lib.Seq.{drop-drop, get_or-drop}
use borrow.Author.Tests.{leb-true}
use Rattle.area.specs.Pick.{pick}
use Rattle.area.specs.Bytes.{num}
use Rattle.area.specs.Zero.{all_zero}
use Rattle.area.proofs.Bytes.{num-drop, num_split}
use Rattle.text.specs.Unicode.{well_formed}
use Rattle.keys.specs.Key.{key_at, key_ok}
use Rattle.keys.specs.Text.{full, bare_of}
use Rattle.keys.specs.Location.{location_at}
use Rattle.keys.specs.CodeKey.{code_key_ok}
use Rattle.keys.specs.declared.Key.{Key}
use Rattle.keys.proofs.Full.{bare_full}
use Rattle.session.specs.Limits.{TEXT_MOST}
use Rattle.session.specs.Codec.{Codec, byte, number, pair, checked, via, ok_many, get_many, list_of}
use Rattle.session.specs.Area.{flag, state, location, text_from, text_bytes, opt_text, key_code, key_text_ok, key_fields_ok, full_key}
use Rattle.session.specs.declared.ElementState.TheVariants.{Pressed, Released}
use Rattle.session.proofs.Codec.{bytes_got, many_count}

-- ---- two formats, one behind the other, from place k on

module _ {A B : Type 0} (X : Codec A) (Y : Codec B) (k w : ℕ) (l : List ℕ) (e : X.width ≡ w) where
  pub pair_test : (pair X Y).ok (drop k l) ≡ (X.ok (drop k l) && Y.ok (drop (k + w) l))
  unfolding pair
  pair_test = rw (drop-drop X.width k l, e)

  -- the same, with what the other one's test comes to
  pub pairs : {y : Bool} → Y.ok (drop (k + w) l) ≡ y → (pair X Y).ok (drop k l) ≡ (X.ok (drop k l) && y)
  pairs f = pair_test ∙ ap (λ (t : Bool). X.ok (drop k l) && t) f

  pub pair_ok : (pair X Y).ok (drop k l) ≡ true → (X.ok (drop k l) ≡ true) × (Y.ok (drop (k + w) l) ≡ true)
  pair_ok o = (and-eq-true_iff (X.ok (drop k l)) (Y.ok (drop (k + w) l))).0 (sym pair_test ∙ o)

  pub pair_got : (pair X Y).get (drop k l) ≡ (X.get (drop k l), Y.get (drop (k + w) l))
  unfolding pair
  pair_got = rw (e, drop-drop w k l)

-- ---- bytes and numbers

module _ (k : ℕ) (l : List ℕ) where
  pub byte_at : byte.get (drop k l) ≡ get_or l (k + 0) 0
  unfolding byte
  byte_at = get_or-drop k l 0 0

  pub flag_at : flag.get (drop k l) ≡ eqb (get_or l (k + 0) 0) 1
  unfolding flag via checked byte
  flag_at = rw (get_or-drop k l 0 0)

  pub state_at : state.get (drop k l) ≡ pick (eqb (get_or l (k + 0) 0) 0) Pressed Released
  unfolding state via checked byte
  state_at = rw (get_or-drop k l 0 0)

  pub location-at : location.get (drop k l) ≡ location_at (get_or l (k + 0) 0)
  unfolding location via checked byte
  location-at = rw (get_or-drop k l 0 0)

  pub number_at : (n : ℕ) → (number n).get (drop k l) ≡ num n (k + 0) l
  unfolding number
  number_at n = num-drop n 0 k l

-- a byte that is one of n cases
module _ {A : Type 0} (to : A → ℕ) (from : ℕ → A) (n k : ℕ) (l : List ℕ) where
  case_test : (via to from (checked (λ m. ltb m n) byte)).ok (drop k l) ≡ ltb (get_or l k 0) n
  unfolding via checked byte
  case_test = rw (get_or-drop k l 0 0, add-zero k)

module _ (k : ℕ) (l : List ℕ) where
  pub flag_test : flag.ok (drop k l) ≡ ltb (get_or l k 0) 2
  unfolding flag
  flag_test = case_test _ _ 2 k l

  pub state_test : state.ok (drop k l) ≡ ltb (get_or l k 0) 2
  unfolding state
  state_test = case_test _ _ 2 k l

  pub location_test : location.ok (drop k l) ≡ ltb (get_or l k 0) 4
  unfolding location
  location_test = case_test _ _ 4 k l

pub number_test : (k : ℕ) (l : List ℕ) → (number k).ok l ≡ true
unfolding number
number_test k l = refl

pub one_byte : (at : ℕ) (l : List ℕ) → num 1 at l ≡ get_or l at 0
unfolding num
one_byte at l = add-zero (get_or l at 0)

-- ---- how many bytes they take

pub byte_width : byte.width ≡ 1
unfolding byte
byte_width = refl

pub number-width : (k : ℕ) → (number k).width ≡ k
unfolding number
number-width k = refl

pub flag-width : flag.width ≡ 1
unfolding flag via checked byte
flag-width = refl

pub state-width : state.width ≡ 1
unfolding state via checked byte
state-width = refl

pub location-width : location.width ≡ 1
unfolding location via checked byte
location-width = refl

pub code-width : key_code.width ≡ 6
unfolding key_code via checked number
code-width = refl

pub text-width : opt_text.width ≡ 1 + TEXT_MOST
unfolding opt_text via text_bytes checked list_of byte
text-width = refl

pub key-width : (most : ℕ) → (full_key most).width ≡ 7 + (1 + most * 1)
unfolding full_key via checked pair number byte text_bytes list_of
key-width most = refl

-- ---- a list that begins with the byte of its count

module _ {A : Type 0} (n : ℕ) (X : Codec A) (l : List ℕ) where
  pub count-ok : (list_of 1 n X).ok l ≡ true → get_or l 0 0 ≤ n
  unfolding list_of
  count-ok o =
      let a = (and-eq-true_iff (leb (num 1 0 l) n) _).0 o in
      let b = leb-true (num 1 0 l) n a.0 in omega (arith, one_byte 0 l)

  pub count_got : (list_of 1 n X).get l ≡ get_many X (get_or l 0 0) (drop 1 l)
  unfolding list_of
  count_got = rw (one_byte 0 l)

-- where every value passes, the count and the zeros decide
module _ {A : Type 0} (X : Codec A) (p : (l : List ℕ) → X.ok l ≡ true) where
  many_pass : (n : ℕ) (l : List ℕ) → ok_many X n l ≡ true
  unfolding ok_many
  many_pass zero l = refl
  many_pass (suc n) l = rw (p l) (many_pass n (drop X.width l))

  pub list_test :
      (most : ℕ) (l : List ℕ) →
      (list_of 1 most X).ok l ≡ (leb (get_or l 0 0) most && all_zero (take ((most - get_or l 0 0) * X.width) (drop (1 + get_or l 0 0 * X.width) l)))
  unfolding list_of
  list_test most l = rw (one_byte 0 l, many_pass (get_or l 0 0) (drop 1 l))

-- ---- a text: its length, and then its bytes

module _ (most : ℕ) (l : List ℕ) where
  pub text_test : (text_bytes most).ok l ≡ ((list_of 1 most byte).ok l && well_formed (get_many byte (get_or l 0 0) (drop 1 l)))
  unfolding text_bytes checked
  text_test = rw (count_got most byte l)

  pub text-ok : (text_bytes most).ok l ≡ true → get_or l 0 0 ≤ most
  text-ok o = count-ok most byte l ((and-eq-true_iff ((list_of 1 most byte).ok l) _).0 (sym text_test ∙ o)).0

  pub text_got : get_or l 0 0 + 1 ≤ length l → (text_bytes most).get l ≡ take (get_or l 0 0) (drop 1 l)
  unfolding text_bytes checked
  text_got h = count_got most byte l ∙ bytes_got (get_or l 0 0) (drop 1 l) (omega (arith, length-drop 1 l))

  pub text-length : length ((text_bytes most).get l) ≡ get_or l 0 0
  unfolding text_bytes checked
  text-length = ap length (count_got most byte l) ∙ many_count byte (get_or l 0 0) (drop 1 l)

-- one that may be none
pub opt_ok : (l : List ℕ) → opt_text.ok l ≡ (text_bytes TEXT_MOST).ok l
unfolding opt_text via
opt_ok l = refl

pub opt_got : (l : List ℕ) → opt_text.get l ≡ text_from ((text_bytes TEXT_MOST).get l)
unfolding opt_text via
opt_got l = refl

-- ---- a key: its three numbers, and then its text

abbrev Numbers : Codec (ℕ × (ℕ × ℕ))
Numbers = pair (number 2) (pair byte (number 4))

numbers_width : Numbers.width ≡ 7
unfolding pair number byte
numbers_width = refl

last-first : (a b c : Bool) → (a && (b && c)) ≡ (b && (c && a))
last-first true true true = refl
last-first true true false = refl
last-first true false c = refl
last-first false true true = refl
last-first false true false = refl
last-first false false c = refl

module _ (most : ℕ) (l : List ℕ) where
  pub key_test :
      (full_key most).ok l ≡ (key_ok (num 2 0 l) (get_or l 2 0) (num 4 3 l) && (key_text_ok (num 2 0 l) (get_or l 7 0) && (text_bytes most).ok (drop 7 l)))
  unfolding full_key via checked pair number byte key_fields_ok
  key_test =
      rw (text-length most (drop 7 l), get_or-drop 7 l 0 0, get_or-drop 2 l 0 0, ← num-drop 4 0 3 l, drop-drop 1 2 l)
      (last-first ((text_bytes most).ok (drop 7 l)) (key_ok (num 2 0 l) (get_or l 2 0) (num 4 0 (drop 3 l))) (key_text_ok (num 2 0 l) (get_or l 7 0)))

  pub key-ok : (full_key most).ok l ≡ true → (text_bytes most).ok (drop 7 l) ≡ true
  key-ok o =
      let a = (and-eq-true_iff (key_ok (num 2 0 l) (get_or l 2 0) (num 4 3 l)) _).0 (sym key_test ∙ o) in
      ((and-eq-true_iff (key_text_ok (num 2 0 l) (get_or l 7 0)) _).0 a.1).1

  pub key_got : (full_key most).get l ≡ full (key_at (num 2 0 l) (get_or l 2 0) (num 4 3 l)) ((text_bytes most).get (drop 7 l))
  unfolding full_key via checked
  key_got =
      rw (pair_got Numbers (text_bytes most) 0 7 l numbers_width, pair_got (number 2) _ 0 2 l (number-width 2), pair_got byte _ 2 1 l byte_width, number_at 0 l 2, byte_at 2 l, number_at 3 l 4)

-- the key alone
pub bare_read :
    (l : List ℕ) (most n v : ℕ) (k : Key) → n ≡ num 2 0 l → v ≡ num 4 3 l → k ≡ key_at n (get_or l 2 0) v → k ≡ bare_of ((full_key most).get l)
bare_read l most n v k a b e =
    e ∙ rw (a, b) (sym (ap bare_of (key_got most l) ∙ bare_full (key_at (num 2 0 l) (get_or l 2 0) (num 4 3 l)) ((text_bytes most).get (drop 7 l))))

-- ---- a key code: the low 32 bits of its number, then the other 16

pub code_test : (l : List ℕ) → key_code.ok l ≡ code_key_ok (num 4 0 l + 4294967296 * num 2 4 l)
unfolding key_code via checked number
code_test l = ap code_key_ok (num_split 4 2 0 l)
