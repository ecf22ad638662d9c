-- Numbers of two bytes, one behind the other, as the header has them: reading undoes writing and writing undoes reading.
-- Assumes nothing.
use mathlib.Core.Path.{◌≡◌, refl, sym, ap, ◌∙◌}
use mathlib.Core.Bool.{Bool, true}
use mathlib.Core.List.{List, [], ◌∷◌, ◌++◌, append_assoc}
use Prim.Native.Nat.{ℕ, zero, suc, ◌+◌, ◌*◌, ◌≤◌, ◌<◌, ◌^◌}
use native.Mathlib.Omega.{arith}
use lib.Dec.{ltb}
use lib.ListN.{length, drop}
use lib.Seq.{drop-drop}
use borrow.Author.Tests.{lt-ltb, ltb-true}
use Rattle.area.specs.Bytes.{Bytes, le, num}
use Rattle.area.specs.Walk.{every}
use Rattle.area.proofs.Pick.{yes_no}
use Rattle.area.proofs.Bytes.{bytes-append, num-le, bytes_le, bytes_drop, num_below}
use Rattle.lookup.specs.Sizes.{CELLS_AT}
use Rattle.lookup.specs.Maps.{word, cells_ok}
use Rattle.lookup.specs.Block.{cell_at, cells_from}
use Rattle.lookup.specs.Encode.{words}
use Rattle.lookup.proofs.block.Items.{num_at, le_at}

-- the m numbers of a row that begins at `base`, from number j on
unfoldable pub row_from : List ℕ → ℕ → ℕ → ℕ → List ℕ
row_from x base zero j = []
row_from x base (suc m) j = num 2 (base + 2 * j) x ∷ row_from x base m (j + 1)

pub words-length : (vs : List ℕ) → length (words vs) ≡ 2 * length vs
unfolding words le
words-length [] = refl
words-length (v ∷ vs) = let i = words-length vs in omega arith

pub words_append : (a b : List ℕ) → words (a ++ b) ≡ words a ++ words b
unfolding words
words_append [] b = refl
words_append (v ∷ a) b = rw (words_append a b) (sym (append_assoc (le 2 v) (words a) (words b)))

pub words-bytes : (vs : List ℕ) → Bytes (words vs)
unfolding words
words-bytes [] = tt
words-bytes (v ∷ vs) = bytes-append (le 2 v) (words vs) (bytes_le 2 v) (words-bytes vs)

module _ (x : List ℕ) (base j v : ℕ) (r : List ℕ) (d : drop (base + 2 * j) x ≡ le 2 v ++ r) where
  first : v < 2 ^ 16 → num 2 (base + 2 * j) x ≡ v
  first h = sym (num_at 2 (base + 2 * j) x) ∙ rw d (num-le 2 v r (omega arith))

  after : drop (base + 2 * (j + 1)) x ≡ r
  unfolding le
  after =
      let z : base + 2 * (j + 1) ≡ base + 2 * j + 2 = omega arith in rw (z, ← drop-drop 2 (base + 2 * j) x, d)

row_back :
    (vs x : List ℕ) (base j : ℕ) (q : List ℕ) → cells_ok word vs ≡ true → drop (base + 2 * j) x ≡ words vs ++ q →
    (row_from x base (length vs) j ≡ vs) × (drop (base + 2 * (j + length vs)) x ≡ q)
unfolding words row_from cells_ok
row_back [] x base j q o d = (refl, let z : j + 0 ≡ j = omega arith in rw z d)
row_back (v ∷ vs) x base j q o d =
    let t = yes_no (ltb v (2 ^ 16)) _ o in
    let e : drop (base + 2 * j) x ≡ le 2 v ++ (words vs ++ q) = d ∙ append_assoc (le 2 v) (words vs) q in
    let m = row_back vs x base (j + 1) q t.1 (after x base j v _ e) in
    let s : j + suc (length vs) ≡ j + 1 + length vs = omega arith in
    (rw (first x base j v _ e (ltb-true v (2 ^ 16) t.0), m.0), rw s m.1)

-- a row of n that was written is read back, and what stands behind it is left
pub row_read :
    (vs x : List ℕ) (base j n end : ℕ) (q : List ℕ) → length vs ≡ n → base + 2 * (j + n) ≡ end → cells_ok word vs ≡ true →
    drop (base + 2 * j) x ≡ words vs ++ q → (row_from x base n j ≡ vs) × (drop end x ≡ q)
row_read vs x base j n end q l e o d = rw (← e, ← l) (row_back vs x base j q o d)

-- a row that was read is written again
pub row_exact :
    (m : ℕ) (x : List ℕ) (base j : ℕ) → Bytes x → base + 2 * (j + m) ≤ length x →
    words (row_from x base m j) ++ drop (base + 2 * (j + m)) x ≡ drop (base + 2 * j) x
unfolding words row_from
row_exact zero x base j b h = let z : j + 0 ≡ j = omega arith in rw z
row_exact (suc m) x base j b h =
    let e = le_at 2 (base + 2 * j) x b (omega arith) in
    let d : base + 2 * (j + 1) ≡ base + 2 * j + 2 = omega arith in
    let s : j + suc m ≡ j + 1 + m = omega arith in
    rw (append_assoc, s, row_exact m x base (j + 1) b (omega arith), d) e

-- what is read is of two bytes
pub row_words : (m : ℕ) (x : List ℕ) (base j : ℕ) → Bytes x → cells_ok word (row_from x base m j) ≡ true
unfolding row_from cells_ok
row_words zero x base j b = refl
row_words (suc m) x base j b =
    let n = num_below 2 (drop (base + 2 * j) x) (bytes_drop (base + 2 * j) x b) in
    let e = num_at 2 (base + 2 * j) x in
    rw (lt-ltb (num 2 (base + 2 * j) x) (2 ^ 16) (omega arith)) (row_words m x base (j + 1) b)

pub cells_row : (m : ℕ) (x : List ℕ) (i : ℕ) → cells_from x m i ≡ row_from x CELLS_AT m i
unfolding cells_from row_from
cells_row zero x i = refl
cells_row (suc m) x i = rw (cells_row m x (i + 1))

pub cells_count : (m : ℕ) (x : List ℕ) (i : ℕ) → length (cells_from x m i) ≡ m
unfolding cells_from
cells_count zero x i = refl
cells_count (suc m) x i = ap suc (cells_count m x (i + 1))

-- the walk over the cells asks the same of each
pub cells-every : (p : ℕ → Bool) (m : ℕ) (x : List ℕ) (i : ℕ) → every (λ k. p (cell_at x k)) m i ≡ cells_ok p (cells_from x m i)
unfolding cells_from cells_ok every
cells-every p zero x i = refl
cells-every p (suc m) x i = rw (cells-every p m x (i + 1))

pub cells_weaken : (p q : ℕ → Bool) → ((v : ℕ) → p v ≡ true → q v ≡ true) → (vs : List ℕ) → cells_ok p vs ≡ true → cells_ok q vs ≡ true
unfolding cells_ok
cells_weaken p q f [] o = refl
cells_weaken p q f (v ∷ vs) o = let t = yes_no (p v) _ o in rw (f v t.0) (cells_weaken p q f vs t.1)
