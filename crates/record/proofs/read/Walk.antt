-- Entries one behind the other: a walk that has come to entry i, and what it has counted.
-- Assumes nothing.
use mathlib.Core.Path.{◌≡◌, refl, sym, ◌∙◌}
use mathlib.Core.Bool.{Bool, true, false, and-eq-true_iff}
use mathlib.Core.List.{List, ◌∷◌}
use Prim.Native.Nat.{ℕ, zero, suc, ◌+◌, ◌-◌, ◌*◌, ◌≤◌, ◌<◌}
use native.Mathlib.Nat.{mul-add, mul-one, mul-zero, add-zero, sub-zero, zero-sub}
use native.Mathlib.Numerals.{add-one, unary_clauses}
use native.Mathlib.Omega.{arith}
use lib.Dec.{eqb}
use lib.ListN.{length, drop, get_or}
use lib.Seq.{drop-drop, get_or-drop}
use borrow.Author.Tests.{eq-eqb, ne_eqb}
use Rattle.area.specs.Pick.{pick}
use Rattle.area.specs.Bytes.{num}
use Rattle.session.specs.Limits.{COUNT_AT, ENTRIES_AT, ENTRY_SIZE}
use Rattle.session.specs.Event.{Event}
use Rattle.session.specs.Session.{Wait, Entry, waiting, complete, open_count}
use Rattle.session.specs.Codec.{Codec, number, pair, via, slot, left, right, either, get_many, ok_many}
use Rattle.session.specs.Area.{wait, event, entry, entry_of, decode, session_ok}
use Rattle.session.proofs.Area.{entry-width}
use Rattle.record.proofs.read.Entries.{decode_got, decode-entries, entries-ok}

-- ---- values one behind the other, of which i are read

module _ {A : Type 0} (X : Codec A) (w : ℕ) (e : X.width ≡ w) (n i : ℕ) (x : List ℕ) where
  pub next_place : drop X.width (drop (w * i) x) ≡ drop (w * (i + 1)) x
  next_place = rw (e, mul-add w i 1, mul-one w) (drop-drop w (w * i) x)

  pub many_got : i < n → get_many X (n - i) (drop (w * i) x) ≡ X.get (drop (w * i) x) ∷ get_many X (n - (i + 1)) (drop (w * (i + 1)) x)
  unfolding get_many
  many_got h = let s : n - i ≡ suc (n - (i + 1)) = omega arith in rw (s, ← next_place)

mul_later : (w i : ℕ) → w + w * i ≡ w * suc i
mul_later w i = simp unary_clauses (omega arith)

-- those from the i-th on
drop_many :
    {A : Type 0} (X : Codec A) (w : ℕ) → X.width ≡ w → (i n : ℕ) (x : List ℕ) → drop i (get_many X n x) ≡ get_many X (n - i) (drop (w * i) x)
unfolding get_many
drop_many X w e zero n x = rw (mul-zero w, sub-zero n)
drop_many X w e (suc i) zero x = rw (zero-sub (suc i)) refl
drop_many X w e (suc i) (suc n) x =
    let k : w + w * i ≡ w * suc i = mul_later w i in
    let m : n - i ≡ suc n - suc i = omega arith in
    drop_many X w e i n (drop X.width x) ∙ rw (e, drop-drop (w * i) w x, k, m) refl

-- the i-th of some that are in order
ok_at :
    {A : Type 0} (X : Codec A) (w : ℕ) → X.width ≡ w → (i n : ℕ) (x : List ℕ) → ok_many X n x ≡ true → i < n → X.ok (drop (w * i) x) ≡ true
unfolding ok_many
ok_at X w e i zero x o h = absurd (omega arith)
ok_at X w e zero (suc n) x o h = rw (mul-zero w) ((and-eq-true_iff (X.ok x) _).0 o).0
ok_at X w e (suc i) (suc n) x o h =
    let k : w + w * i ≡ w * suc i = mul_later w i in
    rw (e, drop-drop (w * i) w x, k) at (ok_at X w e i n (drop X.width x) ((and-eq-true_iff (X.ok x) _).0 o).1 (omega arith))

-- ---- the entries of an area

pub entries_got : (x : List ℕ) → (decode x).entries ≡ get_many entry (num 2 COUNT_AT x) (drop ENTRIES_AT x)
entries_got x = decode-entries x

-- entry i, and those behind it
pub entry-at :
    (x : List ℕ) (i : ℕ) → i < length (decode x).entries →
    drop i (decode x).entries ≡ entry.get (drop (ENTRIES_AT + ENTRY_SIZE * i) x) ∷ drop (suc i) (decode x).entries
entry-at x i h =
    let n = num 2 COUNT_AT x in
    let l = drop ENTRIES_AT x in
    let k : i < n = omega (arith, (decode_got x).2) in
    let d : drop (ENTRY_SIZE * i) l ≡ drop (ENTRIES_AT + ENTRY_SIZE * i) x = drop-drop (ENTRY_SIZE * i) ENTRIES_AT x in
    let s : drop (suc i) (get_many entry n l) ≡ get_many entry (n - (i + 1)) (drop (ENTRY_SIZE * (i + 1)) l) = rw (← add-one i) (drop_many entry ENTRY_SIZE entry-width (i + 1) n l) in
    rw (entries_got x) (drop_many entry ENTRY_SIZE entry-width i n l ∙ many_got entry ENTRY_SIZE entry-width n i l k ∙ rw (d, s))

pub entry-ok_at : (x : List ℕ) (i : ℕ) → session_ok x ≡ true → i < length (decode x).entries → entry.ok (drop (ENTRIES_AT + ENTRY_SIZE * i) x) ≡ true
entry-ok_at x i o h =
    rw (drop-drop (ENTRY_SIZE * i) ENTRIES_AT x) at (ok_at entry ENTRY_SIZE entry-width i (num 2 COUNT_AT x) (drop ENTRIES_AT x) (entries-ok x o) (omega (arith, (decode_got x).2)))

-- ---- an entry that is read, told apart by its mark

pub read_as :
    {A : Type 0} (f : Entry → A) (l : List ℕ) →
    f (entry.get l) ≡ pick (eqb (get_or l 2 0) 0) (f (waiting (num 2 0 l) (wait.get (drop 3 l)))) (f (complete (num 2 0 l) (event.get (drop 3 l))))
unfolding entry via pair number either slot
read_as {A} f l =
    rw (get_or-drop 2 l 0 0, drop-drop 1 2 l) (go (eqb (get_or l 2 0) 0) (num 2 0 l) (wait.get (drop 3 l)) (event.get (drop 3 l)))
  where
    go : (b : Bool) (t : ℕ) (w : Wait) (e : Event) → f (entry_of t (pick b (left w) (right e))) ≡ pick b (f (waiting t w)) (f (complete t e))
    go true t w e = refl
    go false t w e = refl

-- ---- a walk that has come to entry i and counted k open ones

opens : (l : List ℕ) (r : List Entry) → open_count (entry.get l ∷ r) ≡ pick (eqb (get_or l 2 0) 0) (suc (open_count r)) (open_count r)
unfolding open_count
opens l r = read_as (λ x. open_count (x ∷ r)) l

abbrev pub Opens : List ℕ → ℕ → ℕ → ℕ → Type 0
Opens x n i k = (k ≤ i) × (open_count (get_many entry n x) ≡ k + open_count (get_many entry (n - i) (drop (ENTRY_SIZE * i) x)))

module _ (x : List ℕ) (n i k : ℕ) (inv : Opens x n i k) where
  module _ (h : i < n) where
    one : open_count (get_many entry (n - i) (drop (ENTRY_SIZE * i) x)) ≡ pick (eqb (get_or x (ENTRY_SIZE * i + 2) 0) 0) (suc (open_count (get_many entry (n - (i + 1)) (drop (ENTRY_SIZE * (i + 1)) x)))) (open_count (get_many entry (n - (i + 1)) (drop (ENTRY_SIZE * (i + 1)) x)))
    one = rw (many_got entry ENTRY_SIZE entry-width n i x h, opens (drop (ENTRY_SIZE * i) x), get_or-drop (ENTRY_SIZE * i) x 2 0)

    pub opens-more : {j : ℕ} → get_or x (ENTRY_SIZE * i + 2) 0 ≡ 0 → j ≡ k + 1 → Opens x n (i + 1) j
    opens-more e f =
        let o = rw (eq-eqb (get_or x (ENTRY_SIZE * i + 2) 0) 0 e) at one in let c = inv.1 in (omega arith, omega arith)

    pub opens-same : {j : ℕ} → (get_or x (ENTRY_SIZE * i + 2) 0 ≡ 0 → ⊥) → j ≡ k → Opens x n (i + 1) j
    opens-same e f =
        let o = rw (ne_eqb (get_or x (ENTRY_SIZE * i + 2) 0) 0 e) at one in let c = inv.1 in (omega arith, omega arith)

  pub opens_end : n ≤ i → k ≡ open_count (get_many entry n x)
  unfolding open_count get_many
  opens_end h = let z : n - i ≡ 0 = omega arith in sym (inv.1 ∙ rw (z, add-zero))
