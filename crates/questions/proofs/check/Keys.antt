-- Texts, keys and key codes: what the tests on their bytes say. A way out of a check is named by the test that fails there, the last one `end`.
-- Assumes nothing.
use mathlib.Core.Path.{◌≡◌, refl, sym, ◌∙◌}
use mathlib.Core.Bool.{Bool, true, false, ◌&&◌}
use mathlib.Core.List.{List}
use Prim.Native.Nat.{ℕ, ◌+◌, ◌-◌, ◌*◌, ◌≤◌, ◌<◌}
use native.Mathlib.Omega.{arith}
use lib.Dec.{leb}
use lib.ListN.{length, take, drop, get_or, length-drop}
use borrow.Author.Tests.{le-leb, lt-leb}
use Rattle.area.specs.Bytes.{num}
use Rattle.area.specs.Zero.{all_zero}
use Rattle.text.specs.Unicode.{well_formed}
use Rattle.keys.specs.Key.{key_ok}
use Rattle.keys.specs.CodeKey.{code_key_ok}
use Rattle.session.specs.Codec.{byte, get_many, list_of}
use Rattle.session.specs.Area.{text_bytes, key_code, key_text_ok, full_key}
use Rattle.session.proofs.Codec.{bytes_got}
use Rattle.record.proofs.Fields.{list_test, text_test, key_test, code_test}
use Rattle.questions.proofs.check.Tests.{stop, next, stop_by, next_by, cut}

-- ---- a text

module _ (most : ℕ) (l : List ℕ) where
  bytes_listed :
      (list_of 1 most byte).ok l ≡ (leb (get_or l 0 0) most && all_zero (take (1 + most - (1 + get_or l 0 0)) (drop (1 + get_or l 0 0) l)))
  unfolding byte
  bytes_listed =
      let n = get_or l 0 0 in
      let a : (most - n) * 1 ≡ 1 + most - (1 + n) = omega arith in
      let b : 1 + n * 1 ≡ 1 + n = omega arith in
      list_test byte (λ l. refl) most l ∙ rw (a, b)

  bytes_taken : (n : ℕ) → n ≤ length (drop 1 l) → get_many byte n (drop 1 l) ≡ take (1 + n - 1) (drop 1 l)
  bytes_taken n h = let a : 1 + n - 1 ≡ n = omega arith in rw a (bytes_got n (drop 1 l) h)

  pub text_long : most < get_or l 0 0 → false ≡ (text_bytes most).ok l
  text_long h = stop _ _ (text_test most l) (sym (stop _ _ bytes_listed (lt-leb (get_or l 0 0) most h)))

  module _ (h : get_or l 0 0 ≤ most) (k : 1 + most ≤ length l) (z : Bool) (e : z ≡ all_zero (take (1 + most - (1 + get_or l 0 0)) (drop (1 + get_or l 0 0) l))) where
    text-left : (text_bytes most).ok l ≡ (z && well_formed (take (1 + get_or l 0 0 - 1) (drop 1 l)))
    text-left =
        text_test most l
        ∙ rw (next _ _ bytes_listed (le-leb (get_or l 0 0) most h), bytes_taken (get_or l 0 0) (omega (arith, length-drop 1 l)), e)

    pub text_stray : z ≡ false → false ≡ (text_bytes most).ok l
    text_stray q = stop _ _ text-left q

    pub text_end : z ≡ true → (w : Bool) → w ≡ well_formed (take (1 + get_or l 0 0 - 1) (drop 1 l)) → w ≡ (text_bytes most).ok l
    text_end q w f = f ∙ sym (next _ _ text-left q)

-- ---- a key code

pub code_end : (low high : ℕ) (l : List ℕ) (r : Bool) → low ≡ num 4 0 l → high ≡ num 2 4 l → r ≡ code_key_ok (low + 4294967296 * high) → r ≡ key_code.ok l
code_end low high l r a b e = e ∙ rw (a, b) (sym (code_test l))

-- ---- a key

module _ (most : ℕ) (l : List ℕ) (n v : ℕ) (ne : n ≡ num 2 0 l) (ve : v ≡ num 4 3 l) (f : Bool) (fe : f ≡ key_ok n (get_or l 2 0) v) where
  key_left : (full_key most).ok l ≡ (f && (key_text_ok n (get_or l 7 0) && (text_bytes most).ok (drop 7 l)))
  key_left = key_test most l ∙ rw (fe, ne, ve)

  pub key-fields : f ≡ false → false ≡ (full_key most).ok l
  key-fields q = stop _ _ key_left q

  module _ (q : f ≡ true) (t : Bool) (te : t ≡ key_text_ok n (get_or l 7 0)) where
    pub key-text : t ≡ false → false ≡ (full_key most).ok l
    key-text p = stop_by _ _ (next _ _ key_left q) te p

    pub key_end : t ≡ true → (r : Bool) → r ≡ (text_bytes most).ok (take (length l - 7) (drop 7 l)) → r ≡ (full_key most).ok l
    key_end p r e = cut (text_bytes most).ok 7 l e ∙ sym (next_by _ _ (next _ _ key_left q) te p)
