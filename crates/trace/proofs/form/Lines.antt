-- What is read as a line is of the forms, and what is of the forms is read.
-- Assumes nothing.
use mathlib.Core.Path.{◌≡◌, refl, sym, ap, ◌∙◌}
use mathlib.Core.List.{List, [], ◌∷◌, ◌++◌, append_assoc}
use Prim.Native.Nat.{ℕ, suc, ◌+◌, ◌<◌, ◌≤◌}
use native.Mathlib.Numerals.{add-one}
use native.Mathlib.Nat.{add-zero}
use native.Mathlib.Omega.{arith}
use lib.Dec.{eqb}
use lib.ListN.{length, drop, get_or, length-append}
use lib.Seq.{drop-cons, drop-drop, get_or-drop, drop_at}
use borrow.Author.Tests.{eqb-true, eqb-false, ne_eqb}
use Rattle.std.specs.Prelude.{Option, Some, None}
use Rattle.trace.specs.Numeral.{numeral}
use Rattle.trace.specs.declared.form.Line.{Line}
use Rattle.trace.specs.declared.form.Line.TheVariants.{Message, Finish, Key, Again}
use Rattle.trace.specs.Form.{comma, lf, bits8, bits32, bits64, digit_of, field_at, message_at, finish_at, key_at, again_at, line_at}
use Rattle.trace.specs.Grammar.{shown, Ranged, Stands, IfLine, Exact}
use Rattle.trace.proofs.form.Within.{by_pick, by_some}
use Rattle.trace.proofs.form.Exact.{some_byte, field_is, field_back}

-- ---- what is read

module _ (x : List ℕ) (at k : ℕ) (p : 0 < k) (e : get_or x at 0 ≡ k) (c : get_or x (at + 1) 0 ≡ comma) where
  head : drop at x ≡ k ∷ comma ∷ drop (at + 2) x
  head =
      let a = some_byte x at (omega arith) in
      let b = some_byte x (at + 1) (omega arith) in
      let q : suc (at + 1) ≡ at + 2 = omega arith in
      drop-cons x at 0 a ∙ rw (e, ← add-one at, drop-cons x (at + 1) 0 b, c, q)

module _ (x : List ℕ) (at : ℕ) (c : get_or x (at + 1) 0 ≡ comma) where
  message_is : get_or x at 0 ≡ 77 → IfLine x at (message_at x (at + 2))
  unfolding message_at shown Ranged
  message_is e =
      by_some (λ (l : Option (Line × ℕ)). IfLine x at l) (field_at x bits32 comma (at + 2)) _ tt
      (λ kind f. by_some (λ (l : Option (Line × ℕ)). IfLine x at l) (field_at x bits64 comma kind.1) _ tt
      (λ wparam g. by_some (λ (l : Option (Line × ℕ)). IfLine x at l) (field_at x bits64 lf wparam.1) _ tt
      (λ lparam h. all kind.0 wparam.0 lparam.0 kind.1 wparam.1 lparam.1 (field_is x bits32 comma (at + 2) kind (omega arith) f) (field_is x bits64 comma kind.1 wparam (omega arith) g) (field_is x bits64 lf wparam.1 lparam (omega arith) h))))
    where
      all :
          (kind wparam lparam n m o : ℕ) →
          (kind ≤ bits32) × (n ≡ at + 2 + length (numeral 16 kind) + 1) × (drop (at + 2) x ≡ numeral 16 kind ++ (comma ∷ drop n x)) →
          (wparam ≤ bits64) × (m ≡ n + length (numeral 16 wparam) + 1) × (drop n x ≡ numeral 16 wparam ++ (comma ∷ drop m x)) →
          (lparam ≤ bits64) × (o ≡ m + length (numeral 16 lparam) + 1) × (drop m x ≡ numeral 16 lparam ++ (lf ∷ drop o x)) →
          Stands x at (Message kind wparam lparam) o
      all kind wparam lparam n m o f g h =
          record {
            ranged = (f.0, g.0, h.0);
            place = let a = f.1 in let b = g.1 in let d = h.1 in simp length-append (omega arith);
            text = head x at 77 (omega arith) e c ∙ rw (f.2, g.2, h.2) (simp append_assoc);
          }

  finish_is : get_or x at 0 ≡ 70 → IfLine x at (finish_at x (at + 2))
  unfolding finish_at shown Ranged
  finish_is e =
      by_some (λ (l : Option (Line × ℕ)). IfLine x at l) (field_at x 1 comma (at + 2)) _ tt
      (λ kind f. by_some (λ (l : Option (Line × ℕ)). IfLine x at l) (field_at x bits32 comma kind.1) _ tt
      (λ wparam g. by_some (λ (l : Option (Line × ℕ)). IfLine x at l) (field_at x bits64 lf wparam.1) _ tt
      (λ lparam h. all kind.0 wparam.0 lparam.0 kind.1 wparam.1 lparam.1 (field_is x 1 comma (at + 2) kind (omega arith) f) (field_is x bits32 comma kind.1 wparam (omega arith) g) (field_is x bits64 lf wparam.1 lparam (omega arith) h))))
    where
      all :
          (kind wparam lparam n m o : ℕ) →
          (kind ≤ 1) × (n ≡ at + 2 + length (numeral 16 kind) + 1) × (drop (at + 2) x ≡ numeral 16 kind ++ (comma ∷ drop n x)) →
          (wparam ≤ bits32) × (m ≡ n + length (numeral 16 wparam) + 1) × (drop n x ≡ numeral 16 wparam ++ (comma ∷ drop m x)) →
          (lparam ≤ bits64) × (o ≡ m + length (numeral 16 lparam) + 1) × (drop m x ≡ numeral 16 lparam ++ (lf ∷ drop o x)) →
          Stands x at (Finish kind wparam lparam) o
      all kind wparam lparam n m o f g h =
          record {
            ranged = (f.0, g.0, h.0);
            place = let a = f.1 in let b = g.1 in let d = h.1 in simp length-append (omega arith);
            text = head x at 70 (omega arith) e c ∙ rw (f.2, g.2, h.2) (simp append_assoc);
          }

  key_is : get_or x at 0 ≡ 83 → IfLine x at (key_at x (at + 2))
  unfolding key_at shown Ranged
  key_is e =
      by_some (λ (l : Option (Line × ℕ)). IfLine x at l) (field_at x bits8 comma (at + 2)) _ tt
      (λ vk f. by_some (λ (l : Option (Line × ℕ)). IfLine x at l) (field_at x bits8 lf vk.1) _ tt
      (λ byte h. all vk.0 byte.0 vk.1 byte.1 (field_is x bits8 comma (at + 2) vk (omega arith) f) (field_is x bits8 lf vk.1 byte (omega arith) h)))
    where
      all :
          (vk byte n o : ℕ) →
          (vk ≤ bits8) × (n ≡ at + 2 + length (numeral 16 vk) + 1) × (drop (at + 2) x ≡ numeral 16 vk ++ (comma ∷ drop n x)) →
          (byte ≤ bits8) × (o ≡ n + length (numeral 16 byte) + 1) × (drop n x ≡ numeral 16 byte ++ (lf ∷ drop o x)) →
          Stands x at (Key vk byte) o
      all vk byte n o f h =
          record {
            ranged = (f.0, h.0);
            place = let a = f.1 in let d = h.1 in simp length-append (omega arith);
            text = head x at 83 (omega arith) e c ∙ rw (f.2, h.2) (simp append_assoc);
          }

  again_is : get_or x at 0 ≡ 82 → IfLine x at (again_at x (at + 2))
  unfolding again_at shown Ranged
  again_is e =
      by_some (λ (l : Option (Line × ℕ)). IfLine x at l) (field_at x 0x64 lf (at + 2)) _ tt
      (λ n f. by_pick (λ (l : Option (Line × ℕ)). IfLine x at l) (eqb n.0 0) _ _ (λ z. tt)
      (λ z. all n.0 n.1 (eqb-false n.0 0 z) (field_is x 0x64 lf (at + 2) n (omega arith) f)))
    where
      all :
          (n o : ℕ) → (n ≡ 0 → ⊥) → (n ≤ 0x64) × (o ≡ at + 2 + length (numeral 16 n) + 1) × (drop (at + 2) x ≡ numeral 16 n ++ (lf ∷ drop o x)) →
          Stands x at (Again n) o
      all n o z f =
          record {
            ranged = (f.0, omega arith);
            place = let a = f.1 in simp length-append (omega arith);
            text = head x at 82 (omega arith) e c ∙ rw f.2 (simp append_assoc);
          }

-- every line that is read stands there
pub line_is : (x : List ℕ) (at : ℕ) → IfLine x at (line_at x at)
unfolding line_at
line_is x at =
    by_pick (λ (l : Option (Line × ℕ)). IfLine x at l) (eqb (get_or x (at + 1) 0) comma) _ _
    (λ c. by_pick (λ (l : Option (Line × ℕ)). IfLine x at l) (eqb (get_or x at 0) 77) _ _ (λ e. message_is x at (eqb-true _ _ c) (eqb-true _ _ e))
    (λ n. by_pick (λ (l : Option (Line × ℕ)). IfLine x at l) (eqb (get_or x at 0) 70) _ _ (λ e. finish_is x at (eqb-true _ _ c) (eqb-true _ _ e))
    (λ n. by_pick (λ (l : Option (Line × ℕ)). IfLine x at l) (eqb (get_or x at 0) 83) _ _ (λ e. key_is x at (eqb-true _ _ c) (eqb-true _ _ e))
    (λ n. by_pick (λ (l : Option (Line × ℕ)). IfLine x at l) (eqb (get_or x at 0) 82) _ _ (λ e. again_is x at (eqb-true _ _ c) (eqb-true _ _ e)) (λ n. tt)))))
    (λ c. tt)

-- ---- what is of the forms is read
skip : (x : List ℕ) (at s : ℕ) (a b : List ℕ) → drop at x ≡ a ++ (s ∷ b) → drop (at + length a + 1) x ≡ b
skip x at s a b e =
    let q : at + length a + 1 ≡ at + (length a + 1) = omega arith in
    rw q
    (sym (drop-drop (length a + 1) at x)
    ∙ ap (λ (l : List ℕ). drop (length a + 1) l) (e ∙ sym (append_assoc a (s ∷ []) b))
    ∙ drop_at (a ++ (s ∷ [])) b (length a + 1) (length-append a (s ∷ [])))

module _ (x : List ℕ) (at k : ℕ) (b : List ℕ) (e : drop at x ≡ k ∷ comma ∷ b) where
  first_byte : get_or x at 0 ≡ k
  first_byte = sym (ap (λ (l : List ℕ). get_or l 0 0) (sym e) ∙ get_or-drop at x 0 0 ∙ rw (add-zero at))

  second_byte : get_or x (at + 1) 0 ≡ comma
  second_byte = sym (ap (λ (l : List ℕ). get_or l 1 0) (sym e) ∙ get_or-drop at x 1 0)

  behind_head : drop (at + 2) x ≡ b
  behind_head = sym (drop-drop 2 at x) ∙ ap (λ (l : List ℕ). drop 2 l) e

ends : (digit_of comma ≡ None) × (digit_of lf ≡ None)
unfolding digit_of
ends = (refl, refl)

module _ (x r : List ℕ) (at : ℕ) where
  message_back :
      (kind wparam lparam : ℕ) → Ranged (Message kind wparam lparam) → drop at x ≡ shown (Message kind wparam lparam) ++ r →
      line_at x at ≡ Some (Message kind wparam lparam, at + length (shown (Message kind wparam lparam)))
  unfolding line_at message_at shown Ranged
  message_back kind wparam lparam h e =
      let l1 = length (numeral 16 kind) in
      let l2 = length (numeral 16 wparam) in
      let t3 = numeral 16 lparam ++ (lf ∷ r) in
      let t2 = numeral 16 wparam ++ (comma ∷ t3) in
      let f0 : drop at x ≡ 77 ∷ comma ∷ numeral 16 kind ++ (comma ∷ t2) = e ∙ simp append_assoc in
      let f1 = behind_head x at 77 (numeral 16 kind ++ (comma ∷ t2)) f0 in
      let f2 = skip x (at + 2) comma (numeral 16 kind) t2 f1 in
      let f3 = skip x (at + 2 + l1 + 1) comma (numeral 16 wparam) t3 f2 in
      let q : at + 2 + l1 + 1 + l2 + 1 + length (numeral 16 lparam) + 1 ≡ at + length (77 ∷ comma ∷ numeral 16 kind ++ (comma ∷ numeral 16 wparam ++ (comma ∷ numeral 16 lparam ++ (lf ∷ [])))) = simp length-append (omega arith) in
      rw (
        second_byte x at 77 (numeral 16 kind ++ (comma ∷ t2)) f0,
        first_byte x at 77 (numeral 16 kind ++ (comma ∷ t2)) f0,
        field_back x bits32 comma (at + 2) kind t2 f1 h.0 ends.0,
        field_back x bits64 comma (at + 2 + l1 + 1) wparam t3 f2 h.1 ends.0,
        field_back x bits64 lf (at + 2 + l1 + 1 + l2 + 1) lparam r f3 h.2 ends.1,
      )
      (ap (λ (n : ℕ). Some (Message kind wparam lparam, n)) q)

  finish_back :
      (present kind lparam : ℕ) → Ranged (Finish present kind lparam) → drop at x ≡ shown (Finish present kind lparam) ++ r →
      line_at x at ≡ Some (Finish present kind lparam, at + length (shown (Finish present kind lparam)))
  unfolding line_at finish_at shown Ranged
  finish_back kind wparam lparam h e =
      let l1 = length (numeral 16 kind) in
      let l2 = length (numeral 16 wparam) in
      let t3 = numeral 16 lparam ++ (lf ∷ r) in
      let t2 = numeral 16 wparam ++ (comma ∷ t3) in
      let f0 : drop at x ≡ 70 ∷ comma ∷ numeral 16 kind ++ (comma ∷ t2) = e ∙ simp append_assoc in
      let f1 = behind_head x at 70 (numeral 16 kind ++ (comma ∷ t2)) f0 in
      let f2 = skip x (at + 2) comma (numeral 16 kind) t2 f1 in
      let f3 = skip x (at + 2 + l1 + 1) comma (numeral 16 wparam) t3 f2 in
      let q : at + 2 + l1 + 1 + l2 + 1 + length (numeral 16 lparam) + 1 ≡ at + length (70 ∷ comma ∷ numeral 16 kind ++ (comma ∷ numeral 16 wparam ++ (comma ∷ numeral 16 lparam ++ (lf ∷ [])))) = simp length-append (omega arith) in
      rw (
        second_byte x at 70 (numeral 16 kind ++ (comma ∷ t2)) f0,
        first_byte x at 70 (numeral 16 kind ++ (comma ∷ t2)) f0,
        field_back x 1 comma (at + 2) kind t2 f1 h.0 ends.0,
        field_back x bits32 comma (at + 2 + l1 + 1) wparam t3 f2 h.1 ends.0,
        field_back x bits64 lf (at + 2 + l1 + 1 + l2 + 1) lparam r f3 h.2 ends.1,
      )
      (ap (λ (n : ℕ). Some (Finish kind wparam lparam, n)) q)

  key_back :
      (vk byte : ℕ) → Ranged (Key vk byte) → drop at x ≡ shown (Key vk byte) ++ r →
      line_at x at ≡ Some (Key vk byte, at + length (shown (Key vk byte)))
  unfolding line_at key_at shown Ranged
  key_back vk byte h e =
      let l1 = length (numeral 16 vk) in
      let t2 = numeral 16 byte ++ (lf ∷ r) in
      let f0 : drop at x ≡ 83 ∷ comma ∷ numeral 16 vk ++ (comma ∷ t2) = e ∙ simp append_assoc in
      let f1 = behind_head x at 83 (numeral 16 vk ++ (comma ∷ t2)) f0 in
      let f2 = skip x (at + 2) comma (numeral 16 vk) t2 f1 in
      let q : at + 2 + l1 + 1 + length (numeral 16 byte) + 1 ≡ at + length (83 ∷ comma ∷ numeral 16 vk ++ (comma ∷ numeral 16 byte ++ (lf ∷ []))) = simp length-append (omega arith) in
      rw (
        second_byte x at 83 (numeral 16 vk ++ (comma ∷ t2)) f0,
        first_byte x at 83 (numeral 16 vk ++ (comma ∷ t2)) f0,
        field_back x bits8 comma (at + 2) vk t2 f1 h.0 ends.0,
        field_back x bits8 lf (at + 2 + l1 + 1) byte r f2 h.1 ends.1,
      )
      (ap (λ (n : ℕ). Some (Key vk byte, n)) q)

  again_back :
      (n : ℕ) → Ranged (Again n) → drop at x ≡ shown (Again n) ++ r →
      line_at x at ≡ Some (Again n, at + length (shown (Again n)))
  unfolding line_at again_at shown Ranged
  again_back n h e =
      let f0 : drop at x ≡ 82 ∷ comma ∷ numeral 16 n ++ (lf ∷ r) = e ∙ simp append_assoc in
      let f1 = behind_head x at 82 (numeral 16 n ++ (lf ∷ r)) f0 in
      let z = h.1 in
      let q : at + 2 + length (numeral 16 n) + 1 ≡ at + length (82 ∷ comma ∷ numeral 16 n ++ (lf ∷ [])) = simp length-append (omega arith) in
      rw (
        second_byte x at 82 (numeral 16 n ++ (lf ∷ r)) f0,
        first_byte x at 82 (numeral 16 n ++ (lf ∷ r)) f0,
        field_back x 0x64 lf (at + 2) n r f1 h.0 ends.1,
        ne_eqb n 0 (λ k. omega arith),
      )
      (ap (λ (m : ℕ). Some (Again n, m)) q)

  -- any line's text
  pub line_back : (l : Line) → Ranged l → drop at x ≡ shown l ++ r → line_at x at ≡ Some (l, at + length (shown l))
  line_back (Message kind wparam lparam) h e = message_back kind wparam lparam h e
  line_back (Finish present kind lparam) h e = finish_back present kind lparam h e
  line_back (Key vk byte) h e = key_back vk byte h e
  line_back (Again n) h e = again_back n h e

-- ---- both ways

stands_read : (x : List ℕ) (at : ℕ) (l : Line) (next : ℕ) → Stands x at l next → line_at x at ≡ Some (l, next)
stands_read x at l next s = line_back x (drop next x) at l s.ranged s.text ∙ ap (λ (n : ℕ). Some (l, n)) (sym s.place)

pub exact : Exact
exact = record { sound = line_is; complete = stands_read }
