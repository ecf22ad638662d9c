-- The fields of the records, as they are written: which bytes, and how many.
-- Assumes nothing.
use Rattle.std.specs.Prelude.{Option, Some, None}
use mathlib.Core.Path.{◌≡◌, refl, sym, ap, ◌∙◌}
use mathlib.Core.Bool.{Bool}
use mathlib.Core.List.{List, [], ◌∷◌, ◌++◌, append_assoc}
use Prim.Native.Nat.{ℕ, ◌+◌, ◌-◌, ◌≤◌, ◌<◌, zero-le}
use native.Mathlib.Nat.{mul-one, mod-eq_of_lt}
use native.Mathlib.Omega.{arith}
use lib.ListN.{length, replicate, length-append, replicate-append-replicate}
use Rattle.area.specs.Bytes.{le}
use Rattle.area.specs.Splice.{splice, padded}
use Rattle.area.proofs.Bytes.{length-le}
use Rattle.area.proofs.Splice.{chain, length-padded, padded_none}
use Rattle.keys.specs.Key.{key_number, key_aux, key_value}
use Rattle.keys.specs.Text.{FullKey, full, bare_of, text_in}
use Rattle.keys.specs.CodeKey.{code_key}
use Rattle.keys.specs.Location.{location_number}
use Rattle.keys.specs.declared.Key.{Key}
use Rattle.keys.specs.declared.Key.TheVariants.{Named, Character, Unidentified, Dead, DeadChar}
use Rattle.keys.specs.declared.KeyLocation.{KeyLocation}
use Rattle.keys.specs.declared.key_code.KeyCode.{KeyCode}
use Rattle.session.specs.Limits.{TEXT_MOST, KEY_TEXT_MOST, HELD_SIZE, HELD_FIELD_SIZE}
use Rattle.session.specs.Codec.{Codec, byte, number, nothing, pair, checked, via, slot, either, list_of}
use Rattle.session.specs.Event.{Held}
use Rattle.session.specs.Area.{flag_number, flag, state_number, state, location, bytes_of, text_bytes, opt_text, key_code, full_key, held, held_field}
use Rattle.session.specs.declared.ElementState.{ElementState}
use Rattle.session.proofs.Codec.{bytes-put}
use Rattle.record.proofs.Records.{marks}

-- ---- two writes that meet are one, and write a pair

-- the first takes n bytes, and the second stands at k
pub meet :
    (at n k : ℕ) (a b x : List ℕ) {y z : List ℕ} → length a ≡ n → k ≡ at + n → y ≡ splice at a x → z ≡ splice k b y →
    z ≡ splice at (a ++ b) x
meet at n k a b x {y} l e p q = chain at n a b x l p (q ∙ ap (λ (m : ℕ). splice m b y) e)

module _ {A B : Type 0} (X : Codec A) (Y : Codec B) (a : A) (b : B) where
  pub both :
      (at n k : ℕ) (x : List ℕ) {y z : List ℕ} → length (X.put a) ≡ n → k ≡ at + n → y ≡ splice at (X.put a) x →
      z ≡ splice k (Y.put b) y → z ≡ splice at ((pair X Y).put (a, b)) x
  unfolding pair
  both at n k x l e p q = meet at n k (X.put a) (Y.put b) x l e p q

  pub pair-length : (m n : ℕ) → length (X.put a) ≡ m → length (Y.put b) ≡ n → length ((pair X Y).put (a, b)) ≡ m + n
  unfolding pair
  pair-length m n p q = length-append (X.put a) (Y.put b) ∙ rw (p, q)

-- the same write of the same bytes
pub written_as : (at : ℕ) (x : List ℕ) {b d y : List ℕ} → b ≡ d → y ≡ splice at b x → y ≡ splice at d x
written_as at x e p = p ∙ ap (λ (t : List ℕ). splice at t x) e

-- ---- numbers and single bytes

pub number-length : (k v : ℕ) → length ((number k).put v) ≡ k
unfolding number
number-length k v = length-le k v

pub number_put : (k v : ℕ) → le k v ≡ (number k).put v
unfolding number
number_put k v = refl

pub flag-put : (b : Bool) {v : ℕ} → v ≡ flag_number b → v ∷ [] ≡ flag.put b
unfolding flag via checked byte
flag-put b e = ap (λ (n : ℕ). n ∷ []) e

pub state-put : (s : ElementState) {v : ℕ} → v ≡ state_number s → v ∷ [] ≡ state.put s
unfolding state via checked byte
state-put s e = ap (λ (n : ℕ). n ∷ []) e

pub location-put : (l : KeyLocation) {v : ℕ} → v ≡ location_number l → v ∷ [] ≡ location.put l
unfolding location via checked byte
location-put l e = ap (λ (n : ℕ). n ∷ []) e

pub flag-length : (b : Bool) → length (flag.put b) ≡ 1
unfolding flag via checked byte
flag-length b = refl

pub state-length : (s : ElementState) → length (state.put s) ≡ 1
unfolding state via checked byte
state-length s = refl

pub location-length : (l : KeyLocation) → length (location.put l) ≡ 1
unfolding location via checked byte
location-length l = refl

pub code-length : (c : KeyCode) → length (key_code.put c) ≡ 6
unfolding key_code via checked number
code-length c = length-le 6 (code_key c)

-- location, state, repeat, synthetic, with more behind them
pub marks_first :
    {T : Type 0} (Y : Codec T) (l : KeyLocation) (s : ElementState) (b d : Bool) (t : T) →
    (pair marks Y).put ((l, (s, (b, d))), t) ≡ (pair location (pair state (pair flag (pair flag Y)))).put (l, (s, (b, (d, t))))
unfolding pair location state flag via checked byte
marks_first Y l s b d t = refl

pub marks_length : (l : KeyLocation) (s : ElementState) (b d : Bool) → length (marks.put (l, (s, (b, d)))) ≡ 4
unfolding pair location state flag via checked byte
marks_length l s b d = refl

-- ---- a text: its length, itself, zeros behind

pub text-put : (most : ℕ) (l : List ℕ) → length l < 256 → (text_bytes most).put l ≡ length l ∷ padded most l
unfolding text_bytes checked list_of le byte
text-put most l h = rw (mod-eq_of_lt h, mul-one, bytes-put l)

pub text-length : (most : ℕ) (l : List ℕ) → length l ≤ most → most < 256 → length ((text_bytes most).put l) ≡ 1 + most
text-length most l h k =
    ap length (text-put most l (omega arith)) ∙ omega (arith, length-padded most l h)

-- one that may be none
pub opt_bytes : (o : Option (List ℕ)) → opt_text.put o ≡ (text_bytes TEXT_MOST).put (bytes_of o)
unfolding opt_text via
opt_bytes o = refl

pub opt_length : (o : Option (List ℕ)) → length (bytes_of o) ≤ TEXT_MOST → length (opt_text.put o) ≡ 1 + TEXT_MOST
opt_length o h = ap length (opt_bytes o) ∙ text-length TEXT_MOST (bytes_of o) h (omega arith)

-- ---- a key: its three numbers, and then its text

pub numbers_length : (n a v : ℕ) → length ((pair (number 2) (pair byte (number 4))).put (n, (a, v))) ≡ 7
unfolding pair number byte le
numbers_length n a v = refl

-- only a character has a text
pub text-within : (k : Key) (l : List ℕ) → length (text_in (full k l)) ≤ length l
unfolding full text_in
text-within (Named n) l = zero-le
text-within Character l = omega arith
text-within (Unidentified c) l = zero-le
text-within Dead l = zero-le
text-within (DeadChar c) l = zero-le

pub key-length : (most : ℕ) (k : FullKey) → length (text_in k) ≤ most → most < 256 → length ((full_key most).put k) ≡ 8 + most
unfolding full_key via checked
key-length most k h g =
    let b = bare_of k in
    let e : 7 + (1 + most) ≡ 8 + most = omega arith in
    pair-length (pair (number 2) (pair byte (number 4))) (text_bytes most) _ _ 7 (1 + most)
    (numbers_length (key_number b) (key_aux b) (key_value b)) (text-length most (text_in k) h g) ∙ e

-- in the wider field: the same bytes, zeros behind
text_wider :
    (t : List ℕ) → length t ≤ KEY_TEXT_MOST → padded TEXT_MOST t ≡ padded KEY_TEXT_MOST t ++ replicate (TEXT_MOST - KEY_TEXT_MOST) 0
unfolding padded
text_wider t h =
    let more = TEXT_MOST - KEY_TEXT_MOST in
    let left = KEY_TEXT_MOST - length t in
    let w : TEXT_MOST - length t ≡ left + more = omega arith in
    ap (λ (m : ℕ). t ++ replicate m 0) w
    ∙ ap (λ (r : List ℕ). t ++ r) (sym (replicate-append-replicate {A = ℕ} left more 0))
    ∙ sym (append_assoc t (replicate left 0) (replicate more 0))

pub key_wider :
    (k : FullKey) → length (text_in k) ≤ KEY_TEXT_MOST →
    (full_key TEXT_MOST).put k ≡ (full_key KEY_TEXT_MOST).put k ++ replicate (TEXT_MOST - KEY_TEXT_MOST) 0
unfolding full_key via checked pair
key_wider k h =
    let n = (pair (number 2) (pair byte (number 4))).put (key_number (bare_of k), (key_aux (bare_of k), key_value (bare_of k))) in
    let t = text_in k in
    let zeros = replicate {A = ℕ} (TEXT_MOST - KEY_TEXT_MOST) 0 in
    ap (λ (r : List ℕ). n ++ r) (text-put TEXT_MOST t (omega arith) ∙ ap (λ (r : List ℕ). length t ∷ r) (text_wider t h))
    ∙ ap (λ (r : List ℕ). n ++ (r ++ zeros)) (sym (text-put KEY_TEXT_MOST t (omega arith)))
    ∙ sym (append_assoc n ((text_bytes KEY_TEXT_MOST).put t) zeros)

-- ---- the held press of a session, or none

pub some_put : (h : Held) → held_field.put (Some h) ≡ 1 ∷ held.put h
unfolding held_field via either
some_put h = refl

pub none_put : held_field.put None ≡ replicate HELD_FIELD_SIZE 0
unfolding held_field via either slot nothing
none_put = ap (λ (r : List ℕ). 0 ∷ r) (padded_none HELD_SIZE)
