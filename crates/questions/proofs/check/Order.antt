-- The order of the queue: tokens that rise, the first entry, and that few messages are open.
-- Assumes nothing.
use mathlib.Core.Path.{◌≡◌, refl, sym, ap, ◌∙◌}
use mathlib.Core.Bool.{Bool, true, false, ◌&&◌}
use mathlib.Core.List.{List, ◌∷◌}
use Prim.Native.Nat.{ℕ, zero, suc, ◌+◌, ◌-◌, ◌*◌, ◌≤◌, ◌<◌}
use native.Mathlib.Nat.{add-zero}
use native.Mathlib.Numerals.{add-one}
use native.Mathlib.Omega.{arith}
use lib.Dec.{eqb, ltb, leb}
use lib.ListN.{drop, get_or}
use borrow.Author.Tests.{lt-ltb, le-ltb, le-leb, lt-leb}
use Rattle.area.specs.Pick.{pick}
use Rattle.area.specs.Bytes.{num}
use Rattle.area.proofs.Bytes.{num-drop}
use Rattle.session.specs.Limits.{OPEN_MOST, ENTRY_SIZE}
use Rattle.session.specs.Session.{Entry, token_of, rising, first_open, open_count}
use Rattle.session.specs.Codec.{get_many}
use Rattle.session.specs.Area.{entry}
use Rattle.session.proofs.Area.{entry-width}
use Rattle.questions.specs.Order.{ordered}
use Rattle.record.proofs.read.Walk.{many_got, read_as}
use Rattle.questions.proofs.check.Tests.{stop_by, next_by}

-- ---- an entry that is read

token : (l : List ℕ) → token_of (entry.get l) ≡ num 2 0 l
token l = read_as token_of l ∙ either_way (eqb (get_or l 2 0) 0)
  where
    either_way : (b : Bool) → pick b (num 2 0 l) (num 2 0 l) ≡ num 2 0 l
    either_way true = refl
    either_way false = refl

leads : (h : ℕ) (l : List ℕ) (r : List Entry) → first_open h (entry.get l ∷ r) ≡ eqb (get_or l 2 0) 0
unfolding first_open
leads h l r = read_as (λ x. first_open h (x ∷ r)) l ∙ itself (eqb (get_or l 2 0) 0)
  where
    itself : (b : Bool) → pick b true false ≡ b
    itself true = refl
    itself false = refl

-- ---- a loop that has come to entry i, whose token must be at least lo

abbrev pub Rises : ℕ → List ℕ → ℕ → ℕ → ℕ → Type 0
Rises h x n i lo = rising 0 h (get_many entry n x) ≡ rising lo h (get_many entry (n - i) (drop (ENTRY_SIZE * i) x))

module _ (h : ℕ) (x : List ℕ) (n i lo : ℕ) (inv : Rises h x n i lo) where
  module _ (k : i < n) {t : ℕ} (e : t ≡ num 2 (ENTRY_SIZE * i) x) where
    here : token_of (entry.get (drop (ENTRY_SIZE * i) x)) ≡ t
    here = token (drop (ENTRY_SIZE * i) x) ∙ num-drop 2 0 (ENTRY_SIZE * i) x ∙ rw add-zero (sym e)

    turn : rising 0 h (get_many entry n x) ≡ (leb lo t && (ltb t h && rising (t + 1) h (get_many entry (n - (i + 1)) (drop (ENTRY_SIZE * (i + 1)) x))))
    unfolding rising
    turn = inv ∙ rw (many_got entry ENTRY_SIZE entry-width n i x k, here, add-one t)

    pub too_low : t < lo → false ≡ rising 0 h (get_many entry n x)
    too_low a = stop_by _ _ turn refl (lt-leb lo t a)

    module _ (a : lo ≤ t) where
      rest : rising 0 h (get_many entry n x) ≡ (ltb t h && rising (t + 1) h (get_many entry (n - (i + 1)) (drop (ENTRY_SIZE * (i + 1)) x)))
      rest = next_by _ _ turn refl (le-leb lo t a)

      pub too_high : h ≤ t → false ≡ rising 0 h (get_many entry n x)
      too_high b = stop_by _ _ rest refl (le-ltb t h b)

      pub rises_next : t < h → Rises h x n (i + 1) (t + 1)
      rises_next b = next_by _ _ rest refl (lt-ltb t h b)

  pub rises_end : n ≤ i → true ≡ rising 0 h (get_many entry n x)
  unfolding rising get_many
  rises_end k = let z : n - i ≡ 0 = omega arith in sym (inv ∙ rw z)

-- ---- the first entry

pub first_none : (h : ℕ) (x : List ℕ) (n : ℕ) → n ≡ 0 → eqb h 0 ≡ first_open h (get_many entry n x)
unfolding first_open get_many
first_none h x n e = rw e

pub first_some : (h : ℕ) (x : List ℕ) (n : ℕ) → (n ≡ 0 → ⊥) → eqb (get_or x 2 0) 0 ≡ first_open h (get_many entry n x)
unfolding get_many
first_some h x zero e = absurd (e refl)
first_some h x (suc n) e = sym (leads h x (get_many entry n (drop entry.width x)))

-- ---- the three together

module _ (h : ℕ) (x : List ℕ) (n : ℕ) {a : Bool} (ea : a ≡ rising 0 h (get_many entry n x)) where
  pub no_rise : a ≡ false → false ≡ ordered h (get_many entry n x)
  no_rise = stop_by _ _ refl ea

  module _ (ta : a ≡ true) {b : Bool} (eb : b ≡ first_open h (get_many entry n x)) where
    pub no_first : b ≡ false → false ≡ ordered h (get_many entry n x)
    no_first = stop_by _ _ (next_by _ _ refl ea ta) eb

    pub by_count : {k : ℕ} → b ≡ true → k ≡ open_count (get_many entry n x) → leb k OPEN_MOST ≡ ordered h (get_many entry n x)
    by_count tb e = ap (λ (m : ℕ). leb m OPEN_MOST) e ∙ sym (next_by _ _ (next_by _ _ refl ea ta) eb tb)
