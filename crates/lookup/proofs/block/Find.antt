-- The search for a key in a list of a block, and what stands at the place that it finds.
-- Assumes nothing.
use Rattle.std.specs.Prelude.{Some, None}
use mathlib.Core.Path.{◌≡◌, refl, sym, ap, ◌∙◌}
use mathlib.Core.Bool.{Bool, true, false}
use mathlib.Core.List.{List, ◌∷◌}
use Rattle.std.proofs.Common.{Option, Some, None}
use Prim.Native.Nat.{ℕ, zero, suc, ◌+◌, ◌-◌, ◌≤◌, ◌<◌}
use native.Mathlib.Omega.{arith}
use lib.Dec.{eqb}
use lib.ListN.{length, take, drop, get_or, length-drop}
use lib.Seq.{drop-drop, get_or-drop}
use borrow.Author.Tests.{eq-eqb, ne_eqb}
use Rattle.area.specs.Pick.{pick}
use Rattle.area.specs.Bytes.{num}
use Rattle.area.proofs.Pick.{yes_no}
use Rattle.area.proofs.Bytes.{num-drop}
use Rattle.keys.specs.Key.{key_at}
use Rattle.keys.specs.Text.{full}
use Rattle.lookup.specs.Sizes.{LISTS, ENTRY_HEAD}
use Rattle.lookup.specs.Maps.{Item, find}
use Rattle.lookup.specs.Block.{key_of, len_of, next_of, entry_ok, item_of, list_ok, items_of, count_at, start_of, list_at, place_of, place_in_list}
use Rattle.lookup.proofs.block.Entry.{there}
use Rattle.lookup.proofs.block.Lists.{list_stop, list_next, suffix}
use Rattle.lookup.proofs.block.Passed.{Block, listed}

-- ---- the walk of the search
pub record Walking (p : ℕ → Bool) (x : List ℕ) (n key start m at : ℕ) : Type 0 where
  pub within : at ≤ length x
  pub lo : ℕ
  pub ok : list_ok p m lo (drop at x) ≡ true
  pub same : place_of n key (drop start x) start ≡ place_of m key (drop at x) at

first : (p : ℕ → Bool) (m u lo : ℕ) (l : List ℕ) → m ≡ suc u → list_ok p m lo l ≡ true → entry_ok p lo l ≡ true
first p m u lo l h e = go (entry_ok p lo l) refl
  where
    go : (b : Bool) → entry_ok p lo l ≡ b → b ≡ true
    go true q = refl
    go false q = sym (list_stop p m lo l u h q) ∙ e

module _ (m key at : ℕ) (l : List ℕ) where
  pub place_end : m ≤ 0 → place_of m key l at ≡ None
  unfolding place_of
  place_end h = let e : m ≡ 0 = omega arith in rw e

  module _ (u : ℕ) (more : m ≡ suc u) where
    place_hit : key_of l ≡ key → place_of m key l at ≡ Some at
    unfolding place_of
    place_hit e = rw (more, eq-eqb (key_of l) key e)

    place-next : (key_of l ≡ key → ⊥) → place_of m key l at ≡ place_of u key (next_of l) (at + (ENTRY_HEAD + len_of l))
    unfolding place_of
    place-next e = rw (more, ne_eqb (key_of l) key e)

module _ (p : ℕ → Bool) (x : List ℕ) (n key start m at : ℕ) (w : Walking p x n key start m at) (u : ℕ) (h : m ≡ suc u) where
  whole : take (length x - at) (drop at x) ≡ drop at x
  whole = suffix x at w.within

  pub standing :
      (ENTRY_HEAD ≤ length (take (length x - at) (drop at x)))
      × (at + (ENTRY_HEAD + len_of (take (length x - at) (drop at x))) ≤ length x)
  standing =
      let t = there p w.lo (drop at x) (first p m u w.lo (drop at x) h w.ok) in
      let k = length-drop at x in
      let a = w.within in let b = t.room in rw whole (omega arith, omega arith)

  module _ (k : ℕ) (ke : k ≡ key_of (take (length x - at) (drop at x))) where
    pub walk_hit : k ≡ key → Some at ≡ place_of n key (drop start x) start
    walk_hit e = sym (w.same ∙ place_hit m key at (drop at x) u h (rw (ke, whole) at e))

    pub walk_next :
        (k ≡ key → ⊥) → (g : ℕ) → g ≡ len_of (take (length x - at) (drop at x)) →
        Walking p x n key start u (at + (ENTRY_HEAD + g))
    walk_next ne g ge =
        let kk : key_of (drop at x) ≡ k = sym (ke ∙ ap (λ (l : List ℕ). key_of l) whole) in
        let gg : g ≡ len_of (drop at x) = ge ∙ ap (λ (l : List ℕ). len_of l) whole in
        let d : next_of (drop at x) ≡ drop (at + (ENTRY_HEAD + g)) x =
        drop-drop (ENTRY_HEAD + len_of (drop at x)) at x ∙ ap (λ (i : ℕ). drop (at + (ENTRY_HEAD + i)) x) (sym gg) in
        let o = list_next p m w.lo (drop at x) u h (first p m u w.lo (drop at x) h w.ok) in
        let s = standing in
        let f = place-next m key at (drop at x) u h (λ e. ne (sym kk ∙ e)) in
        let q :
        place_of u key (next_of (drop at x)) (at + (ENTRY_HEAD + len_of (drop at x)))
        ≡ place_of u key (drop (at + (ENTRY_HEAD + g)) x) (at + (ENTRY_HEAD + g)) = cc (d, gg) in
        record {
          within = rw ge s.1;
          lo = key_of (drop at x) + 1;
          ok = rw (← d) (sym o ∙ w.ok);
          same = w.same ∙ f ∙ q;
        }

-- ---- what the search says of the items
pub record Looked (x : List ℕ) (key : ℕ) (its : List Item) (o : Option ℕ) : Type 0 where
  pub nothing : o ≡ None → find key its ≡ None
  pub something : (p : ℕ) → o ≡ Some p → find key its ≡ Some (item_of (drop p x)).value
  pub room : (p : ℕ) → o ≡ Some p → p + (ENTRY_HEAD + len_of (drop p x)) ≤ length x

pub looked :
    (t : ℕ → Bool) (m lo key at : ℕ) (x : List ℕ) → at ≤ length x → list_ok t m lo (drop at x) ≡ true →
    Looked x key (items_of m (drop at x)) (place_of m key (drop at x) at)
unfolding list_ok items_of place_of find item_of
looked t zero lo key at x h e =
    record { nothing = λ z. refl; something = λ p n. absurd (cc); room = λ p n. absurd (cc) }
looked t (suc m) lo key at x h e =
    go (eqb (key_of (drop at x)) key) refl (λ p f g. looked t m (key_of (drop at x) + 1) key p x f g)
  where
    s : (entry_ok t lo (drop at x) ≡ true) × (list_ok t m (key_of (drop at x) + 1) (next_of (drop at x)) ≡ true)
    s = yes_no (entry_ok t lo (drop at x)) _ e

    d : next_of (drop at x) ≡ drop (at + (ENTRY_HEAD + len_of (drop at x))) x
    d = drop-drop (ENTRY_HEAD + len_of (drop at x)) at x

    in_reach : at + (ENTRY_HEAD + len_of (drop at x)) ≤ length x
    in_reach = let k = length-drop at x in let r = (there t lo (drop at x) s.0).room in omega arith

    rest :
        ((p : ℕ) → p ≤ length x → list_ok t m (key_of (drop at x) + 1) (drop p x) ≡ true → Looked x key (items_of m (drop p x)) (place_of m key (drop p x) p)) →
        Looked x key (items_of m (next_of (drop at x))) (place_of m key (next_of (drop at x)) (at + (ENTRY_HEAD + len_of (drop at x))))
    rest f = rw d (f (at + (ENTRY_HEAD + len_of (drop at x))) in_reach (rw d at s.1))

    here : (p : ℕ) → Some at ≡ Some p → at ≡ p
    here p n = cc

    go :
        (b : Bool) → eqb (key_of (drop at x)) key ≡ b →
        ((p : ℕ) → p ≤ length x → list_ok t m (key_of (drop at x) + 1) (drop p x) ≡ true → Looked x key (items_of m (drop p x)) (place_of m key (drop p x) p)) →
        Looked x key (item_of (drop at x) ∷ items_of m (next_of (drop at x))) (pick b (Some at) (place_of m key (next_of (drop at x)) (at + (ENTRY_HEAD + len_of (drop at x)))))
    go true q f =
        record {
          nothing = λ z. absurd (cc);
          something = λ p n. rw (q, ← here p n);
          room = λ p n. rw (← here p n) in_reach;
        }
    go false q f =
        record {
          nothing = λ z. rw q ((rest f).nothing z);
          something = λ p n. rw q ((rest f).something p n);
          room = λ p n. (rest f).room p n;
        }

-- list j of the block, and what stands at the place that was found in it
pub looked_in : (x : List ℕ) (j key : ℕ) → Block x → j < LISTS → Looked x key (list_at x j) (place_in_list x j key)
unfolding list_at place_in_list
looked_in x j key b h =
    let l = listed x j b h in looked _ (count_at x j) 0 key (start_of x j) x l.within l.ok

-- the value at a place, read where it stands
pub value_at :
    (at : ℕ) (x : List ℕ) →
    (item_of (drop at x)).value
    ≡ full (key_at (num 2 (at + 8) x) (get_or x (at + 10) 0) (num 4 (at + 12) x)) (take (get_or x (at + 11) 0) (drop (at + ENTRY_HEAD) x))
unfolding item_of
value_at at x =
    rw (num-drop 2 8 at x, num-drop 4 12 at x, get_or-drop at x 10 0, get_or-drop at x 11 0, drop-drop ENTRY_HEAD at x)
