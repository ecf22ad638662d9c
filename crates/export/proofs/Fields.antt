-- An event's numbers and texts, as they stand in its bytes.
-- Assumes nothing.
use Rattle.std.specs.Prelude.{Some}
use mathlib.Core.Path.{◌≡◌, refl, sym, ap, ◌∙◌}
use mathlib.Core.Bool.{Bool, true, false, and-eq-true_iff}
use mathlib.Core.List.{List, [], ◌∷◌}
use Prim.Native.Nat.{ℕ, zero, suc, ◌+◌, ◌^◌, ◌≤◌, ◌<◌}
use native.Mathlib.Nat.{add-zero}
use native.Mathlib.Omega.{arith}
use lib.Dec.{eqb, ltb}
use lib.ListN.{length, take, drop, get_or, length-drop}
use lib.Seq.{drop-drop, get_or-drop}
use borrow.Author.Tests.{eqb-true, ltb-true}
use Rattle.area.specs.Pick.{pick}
use Rattle.area.specs.Look.{assoc}
use Rattle.area.specs.Bytes.{num}
use Rattle.area.proofs.Bytes.{num-drop, num_split}
use Rattle.keys.specs.Native.{native_kind, native_value, native_fits}
use Rattle.keys.specs.Key.{key_number, key_aux, key_value, key_ok, key_at}
use Rattle.keys.specs.Text.{bare_of, text_in, full}
use Rattle.keys.proofs.Numbers.{native_below, native_back, location_exact, key_exact}
use Rattle.keys.proofs.Full.{bare_full, text-character, text_empty}
use Rattle.keys.specs.Number.{code_number, code_native}
use Rattle.keys.specs.CodeKey.{code_fits, code_key, code_of_key}
use Rattle.keys.proofs.key_code.CodeKeys.{code-key_exact}
use Rattle.session.specs.Limits.{TEXT_MOST, KEY_TEXT_MOST, ANSWER_EVENT_SIZE}
use Rattle.session.specs.Codec.{number, checked, via}
use Rattle.session.specs.Area.{flag_number, state_number, bytes_of, text_from, text_bytes, opt_text, key_code, key_text_ok, full_key, event}
use Rattle.session.specs.declared.ElementState.TheVariants.{Pressed, Released}
use Rattle.record.proofs.Fields.{text-ok, text_got, text-length, key_test, key-ok, key_got}
use Rattle.record.proofs.Records.{marks, marks_test, event_test, event_parts, event_got}
use Rattle.export.specs.Events.{fields_of, event_text, text_place}

-- ---- a key code: the value of its native code, the kind of that, its place

one_byte : (at : ℕ) (l : List ℕ) → num 1 at l ≡ get_or l at 0
unfolding num
one_byte at l = add-zero (get_or l at 0)

module _ (l : List ℕ) (o : key_code.ok l ≡ true) (a : num 4 0 l < 2 ^ 32) (b : get_or l 4 0 < 256) where
  code-fields :
      (code_number (key_code.get l) ≡ get_or l 5 0) × (native_kind (code_native (key_code.get l)) ≡ get_or l 4 0)
      × (native_value (code_native (key_code.get l)) ≡ num 4 0 l)
  unfolding key_code via checked number code_key code_fits
  code-fields =
      let e = code-key_exact (num 6 0 l) o in
      let c = code_of_key (num 6 0 l) in
      let x = code_native c in
      let f : native_fits x ≡ true = e.1 in
      let n = native_below (native_kind x) (native_value x) (native_back x f).1 in
      let s = num_split 4 2 0 l in
      let t = num_split 1 1 4 l in
      let u = one_byte 4 l in
      let v = one_byte 5 l in
      (omega arith, omega arith, omega arith)

-- ---- a key: its three numbers, its text

no_bytes : (t : List ℕ) → length t ≡ 0 → t ≡ []
no_bytes [] e = refl
no_bytes (b ∷ t) e = let z : ⊥ = omega arith in absurd z

-- a character has its text, and no other key has one
own_text : (n aux v : ℕ) (t : List ℕ) → key_text_ok n (length t) ≡ true → text_in (full (key_at n aux v) t) ≡ t
unfolding key_text_ok key_at assoc
own_text n aux v t e = go (eqb n 0) refl
  where
    go : (b : Bool) → eqb n 0 ≡ b → text_in (full (key_at n aux v) t) ≡ t
    go true p = rw p (text-character t)
    go false p =
        let z = no_bytes t (eqb-true (length t) 0 (rw p at e)) in
        ap (λ (u : List ℕ). text_in (full (key_at n aux v) u)) z ∙ text_empty (key_at n aux v) ∙ sym z

module _ (most p : ℕ) (l : List ℕ) (o : (full_key most).ok (drop p l) ≡ true) where
  key-fields :
      (key_number (bare_of ((full_key most).get (drop p l))) ≡ num 2 (p + 0) l) × (key_aux (bare_of ((full_key most).get (drop p l))) ≡ get_or l (p + 2) 0)
      × (key_value (bare_of ((full_key most).get (drop p l))) ≡ num 4 (p + 3) l)
      × (text_in ((full_key most).get (drop p l)) ≡ (text_bytes most).get (drop (p + 7) l))
  key-fields =
      let m = drop p l in
      let t = (text_bytes most).get (drop 7 m) in
      let k = (and-eq-true_iff (key_ok (num 2 0 m) (get_or m 2 0) (num 4 3 m)) _).0 (sym (key_test most m) ∙ o) in
      let w = (and-eq-true_iff (key_text_ok (num 2 0 m) (get_or m 7 0)) _).0 k.1 in
      let x = key_exact (num 2 0 m) (get_or m 2 0) (num 4 3 m) k.0 in
      let n : length t ≡ get_or m 7 0 = text-length most (drop 7 m) ∙ get_or-drop 7 m 0 0 in
      let g = own_text (num 2 0 m) (get_or m 2 0) (num 4 3 m) t (rw n w.0) in
      rw (key_got most m, bare_full (key_at (num 2 0 m) (get_or m 2 0) (num 4 3 m)) t) (
        x.0 ∙ num-drop 2 0 p l,
        x.1 ∙ get_or-drop p l 2 0,
        x.2 ∙ num-drop 4 3 p l,
        g ∙ ap (text_bytes most).get (drop-drop 7 p l),
      )

  key-text : (text_bytes most).ok (drop (p + 7) l) ≡ true
  key-text = ap (text_bytes most).ok (sym (drop-drop 7 p l)) ∙ key-ok most (drop p l) o

-- ---- location, state, flags, texts

state_exact : (n : ℕ) → n < 2 → state_number (pick (eqb n 0) Pressed Released) ≡ n
unfolding state_number
state_exact zero h = refl
state_exact (suc zero) h = refl
state_exact (suc (suc n)) h = let z : ⊥ = omega arith in absurd z

flag_exact : (n : ℕ) → n < 2 → flag_number (eqb n 1) ≡ n
flag_exact zero h = refl
flag_exact (suc zero) h = refl
flag_exact (suc (suc n)) h = let z : ⊥ = omega arith in absurd z

bytes_from : (t : List ℕ) → bytes_of (text_from t) ≡ t
bytes_from [] = refl
bytes_from (b ∷ t) = refl

-- a text: its length, its bytes
module _ (most p : ℕ) (l : List ℕ) (o : (text_bytes most).ok (drop p l) ≡ true) (h : p + (1 + most) ≤ length l) where
  long : get_or (drop p l) 0 0 ≡ get_or l (p + 0) 0
  long = get_or-drop p l 0 0

  text_at : ((text_bytes most).get (drop p l) ≡ take (get_or l (p + 0) 0) (drop (p + 1) l)) × (get_or l (p + 0) 0 ≤ most)
  text_at =
      let a = text-ok most (drop p l) o in
      let d = length-drop p l in
      let e = long in (
        text_got most (drop p l) (omega arith) ∙ rw (long, drop-drop 1 p l),
        omega arith,
      )

-- ---- an event

module _ (l : List ℕ) (o : event.ok l ≡ true) where
  abbrev Marks : Type 0
  Marks = (get_or l 111 0 < 4) × (get_or l 112 0 < 2) × (get_or l 113 0 < 2) × (get_or l 114 0 < 2)

  code_of : key_code.ok l ≡ true
  code_of = ((and-eq-true_iff (key_code.ok l) _).0 (sym (event_test l) ∙ o)).0

  marks_of : Marks
  marks_of =
      let a = (and-eq-true_iff (key_code.ok l) _).0 (sym (event_test l) ∙ o) in
      let b = (and-eq-true_iff ((full_key TEXT_MOST).ok (drop 6 l)) _).0 a.1 in
      let c = (and-eq-true_iff (opt_text.ok (drop 62 l)) _).0 b.1 in
      let d = (and-eq-true_iff (marks.ok (drop 111 l)) _).0 c.1 in
      let m = drop 111 l in
      let e = (and-eq-true_iff (ltb (get_or m 0 0) 4) _).0 (sym (marks_test m) ∙ d.0) in
      let f = (and-eq-true_iff (ltb (get_or m 1 0) 2) _).0 e.1 in
      let g = (and-eq-true_iff (ltb (get_or m 2 0) 2) (ltb (get_or m 3 0) 2)).0 f.1 in (
        rw (← get_or-drop 111 l 0 0) (ltb-true (get_or m 0 0) 4 e.0),
        rw (← get_or-drop 111 l 1 0) (ltb-true (get_or m 1 0) 2 f.0),
        rw (← get_or-drop 111 l 2 0) (ltb-true (get_or m 2 0) 2 g.0),
        rw (← get_or-drop 111 l 3 0) (ltb-true (get_or m 3 0) 2 g.1),
      )

  -- where each number stands
  pub fields_read :
      num 4 0 l < 2 ^ 32 → get_or l 4 0 < 256 →
      get_or l 5 0 ∷ get_or l 4 0 ∷ num 4 0 l ∷ num 2 6 l ∷ get_or l 8 0 ∷ num 4 9 l ∷ get_or l 111 0 ∷ get_or l 112 0 ∷ get_or l 113 0 ∷ get_or l 114 0 ∷ num 2 164 l ∷ get_or l 166 0
      ∷ num 4 167 l ∷ get_or l 13 0 ∷ get_or l 62 0 ∷ get_or l 115 0 ∷ get_or l 171 0 ∷ [] ≡ fields_of (event.get l)
  unfolding fields_of
  fields_read a b =
      let p = event_parts l o in
      let c = code-fields l code_of a b in
      let k = key-fields TEXT_MOST 6 l p.logical_key in
      let n = key-fields KEY_TEXT_MOST 164 l p.key_without_modifiers in
      let m = marks_of in
      let t : length ((text_bytes TEXT_MOST).get (drop 13 l)) ≡ get_or l 13 0 = text-length TEXT_MOST (drop 13 l) ∙ get_or-drop 13 l 0 0 in
      let u : length ((text_bytes TEXT_MOST).get (drop 62 l)) ≡ get_or l 62 0 = text-length TEXT_MOST (drop 62 l) ∙ get_or-drop 62 l 0 0 in
      let v : length ((text_bytes TEXT_MOST).get (drop 115 l)) ≡ get_or l 115 0 = text-length TEXT_MOST (drop 115 l) ∙ get_or-drop 115 l 0 0 in
      let w : length ((text_bytes KEY_TEXT_MOST).get (drop 171 l)) ≡ get_or l 171 0 = text-length KEY_TEXT_MOST (drop 171 l) ∙ get_or-drop 171 l 0 0 in
      rw (event_got l, c.0, c.1, c.2, k.0, k.1, k.2, k.3, n.0, n.1, n.2, n.3, location_exact (get_or l 111 0) m.0, state_exact (get_or l 112 0) m.1, flag_exact (get_or l 113 0) m.2, flag_exact (get_or l 114 0) m.3, bytes_from ((text_bytes TEXT_MOST).get (drop 62 l)), bytes_from ((text_bytes TEXT_MOST).get (drop 115 l)), t, u, v, w)

  -- ---- a text

  -- the text's bytes stand behind its length, within the event
  abbrev Text : ℕ → Type 0
  Text which =
      (event_text (event.get l) which ≡ Some (take (get_or l (text_place which) 0) (drop (text_place which + 1) l)))
      × (get_or l (text_place which) 0 ≤ TEXT_MOST) × (text_place which + 1 + get_or l (text_place which) 0 ≤ ANSWER_EVENT_SIZE)

  pub text-read : ANSWER_EVENT_SIZE ≤ length l → (which : ℕ) → which ≤ 3 → Text which
  unfolding event_text text_place assoc
  text-read h zero b =
      let p = event_parts l o in
      let k = key-fields TEXT_MOST 6 l p.logical_key in
      let x : (text_bytes TEXT_MOST).ok (drop 13 l) ≡ true = key-text TEXT_MOST 6 l p.logical_key in
      let t = text_at TEXT_MOST 13 l x (omega arith) in
      (rw (event_got l, k.3, t.0), t.1, omega (arith, t.1))
  text-read h (suc zero) b =
      let p = event_parts l o in
      let t = text_at TEXT_MOST 62 l p.text (omega arith) in
      (rw (event_got l, bytes_from ((text_bytes TEXT_MOST).get (drop 62 l)), t.0), t.1, omega (arith, t.1))
  text-read h (suc (suc zero)) b =
      let p = event_parts l o in
      let t = text_at TEXT_MOST 115 l p.text_with_all_modifiers (omega arith) in
      (rw (event_got l, bytes_from ((text_bytes TEXT_MOST).get (drop 115 l)), t.0), t.1, omega (arith, t.1))
  text-read h (suc (suc (suc zero))) b =
      let p = event_parts l o in
      let k = key-fields KEY_TEXT_MOST 164 l p.key_without_modifiers in
      let x : (text_bytes KEY_TEXT_MOST).ok (drop 171 l) ≡ true = key-text KEY_TEXT_MOST 164 l p.key_without_modifiers in
      let t = text_at KEY_TEXT_MOST 171 l x (omega arith) in
      (rw (event_got l, k.3, t.0), omega (arith, t.1), omega (arith, t.1))
  text-read h (suc (suc (suc (suc w)))) b = let z : ⊥ = omega arith in absurd z
