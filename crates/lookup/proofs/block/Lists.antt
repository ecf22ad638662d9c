-- The entries of a list, and the lists of a block: the walks of the check.
-- Assumes nothing.
use mathlib.Core.Path.{◌≡◌, refl, sym, ap, ◌∙◌}
use mathlib.Core.Bool.{Bool, true, false}
use mathlib.Core.List.{List}
use Rattle.std.proofs.Common.{Option, Some, None}
use Prim.Native.Nat.{ℕ, zero, suc, ◌+◌, ◌-◌, ◌^◌, ◌≤◌, ◌<◌}
use native.Mathlib.Numerals.{add-one}
use native.Mathlib.Omega.{arith}
use lib.Dec.{eqb}
use lib.ListN.{length, take, drop, length-drop}
use lib.Seq.{drop-drop, take_all}
use borrow.Author.Tests.{ltb-true, eqb-true}
use Rattle.std.specs.Option.{option_eq}
use Rattle.std.proofs.lemmas.Bool.Decides.{nat_tests}
use Rattle.area.specs.Pick.{pick}
use Rattle.area.specs.Walk.{every}
use Rattle.area.proofs.Walk.{every_end}
use Rattle.keys.proofs.key_code.CodeKeys.{code-key_below}
use Rattle.lookup.specs.Sizes.{LISTS, VKEYS, ENTRY_HEAD}
use Rattle.lookup.specs.Block.{key_of, len_of, next_of, entry_ok, list_ok, used_of, count_at, size_at, start_of, list_key_ok, by_vkey, one_ok, lists_ok}
use Rattle.lookup.proofs.block.Entry.{There, there, found, not_found}

-- every list's keys leave room for one more
pub key_below : (b : Bool) (k : ℕ) → list_key_ok b k ≡ true → k < 2 ^ 48
key_below true k e = let h = ltb-true k VKEYS e in omega arith
key_below false k e = code-key_below k e

-- n entries: what is left of them
module _ (p : ℕ → Bool) (m lo : ℕ) (l : List ℕ) where
  pub list-end : m ≤ 0 → (list_ok p m lo l ≡ true) × (used_of m l ≡ 0)
  unfolding list_ok used_of
  list-end h = let e : m ≡ 0 = omega arith in rw e (refl, refl)

  -- one entry, and u behind it
  module _ (u : ℕ) (more : m ≡ suc u) where
    pub list_stop : entry_ok p lo l ≡ false → list_ok p m lo l ≡ false
    unfolding list_ok
    list_stop e = rw (more, e)

    pub list_next : entry_ok p lo l ≡ true → list_ok p m lo l ≡ list_ok p u (key_of l + 1) (next_of l)
    unfolding list_ok
    list_next e = rw (more, e)

    pub used_next : used_of m l ≡ ENTRY_HEAD + len_of l + used_of u (next_of l)
    unfolding used_of
    used_next = rw more

-- the code's part from `at` on is the rest of the list
pub suffix : (x : List ℕ) (at : ℕ) → at ≤ length x → take (length x - at) (drop at x) ≡ drop at x
suffix x at h = take_all (length x - at) (drop at x) (simp length-drop (omega arith))

-- a turn of the walk over the entries
pub record Turned (b : Bool) (x : List ℕ) (at lo e m u key : ℕ) : Type 0 where
  pub room : at + e ≤ length x
  pub low : key < 2 ^ 48
  pub ok : list_ok (list_key_ok b) m lo (drop at x) ≡ list_ok (list_key_ok b) u (key + 1) (drop (at + e) x)
  pub used : at + used_of m (drop at x) ≡ at + e + used_of u (drop (at + e) x)

-- the bytes of the entry there, if there is one
abbrev pub Entered : Bool → ℕ → List ℕ → Option ℕ → Type 0
Entered b lo l r = r ≡ pick (entry_ok (list_key_ok b) lo l) (Some (ENTRY_HEAD + len_of l)) None

module _ (b : Bool) (x : List ℕ) (at lo : ℕ) (h : at ≤ length x) where
  abbrev pub Part : List ℕ
  Part = take (length x - at) (drop at x)

  pub turn_stop : Entered b lo Part None → (m u : ℕ) → m ≡ suc u → list_ok (list_key_ok b) m lo (drop at x) ≡ false
  turn_stop r m u a = list_stop (list_key_ok b) m lo (drop at x) u a (not_found _ _ (rw (suffix x at h) at r))

  module _ (e : ℕ) (r : Entered b lo Part (Some e)) where
    here : There (list_key_ok b) lo (drop at x) × (e ≡ ENTRY_HEAD + len_of (drop at x)) × (entry_ok (list_key_ok b) lo (drop at x) ≡ true)
    here =
        let f = found _ _ (rw (suffix x at h) at r) in (there (list_key_ok b) lo (drop at x) f.0, f.1, f.0)

    pub wide : (ENTRY_HEAD ≤ e) × (at + e ≤ length x)
    wide = let t = here.0.room in let w = here.1 in let k = length-drop at x in (omega arith, omega arith)

    pub turn : (m u key : ℕ) → m ≡ suc u → key ≡ key_of Part → Turned b x at lo e m u key
    turn m u key a ke =
        let w = here.1 in
        let k : key ≡ key_of (drop at x) = ke ∙ ap (λ (l : List ℕ). key_of l) (suffix x at h) in
        let n : next_of (drop at x) ≡ drop (at + e) x =
        drop-drop (ENTRY_HEAD + len_of (drop at x)) at x ∙ ap (λ (i : ℕ). drop (at + i) x) (sym w) in
        let o = list_next (list_key_ok b) m lo (drop at x) u a here.2 in
        let s = used_next (list_key_ok b) m lo (drop at x) u a in
        let v : used_of m (drop at x) ≡ e + used_of u (drop (at + e) x) = s ∙ cc (n, w) in
        record {
          room = wide.1;
          low = rw k (key_below b (key_of (drop at x)) here.0.key);
          ok = rw (k, ← n) o;
          used = omega arith;
        }

pub turned_end :
    (p : ℕ → Bool) (n m s at lo : ℕ) (l k : List ℕ) → m ≤ 0 → list_ok p n 0 l ≡ list_ok p m lo k →
    s + used_of n l ≡ at + used_of m k → Some at ≡ pick (list_ok p n 0 l) (Some (s + used_of n l)) None
turned_end p n m s at lo l k h q r =
    let e = list-end p m lo k h in let f : at ≡ s + used_of n l = omega (arith, e.1) in rw (q ∙ e.0, ← f)

pub turned_stop :
    (p : ℕ → Bool) (n u : ℕ) (l : List ℕ) (b : Bool) → list_ok p n 0 l ≡ b → b ≡ false →
    None ≡ pick (list_ok p n 0 l) (Some u) None
turned_stop p n u l b q r = rw (q ∙ r)

-- entries that are there lie within the bytes
pub used_fits : (p : ℕ → Bool) (n lo : ℕ) (l : List ℕ) → list_ok p n lo l ≡ true → used_of n l ≤ length l
unfolding list_ok used_of
used_fits p zero lo l e = omega arith
used_fits p (suc n) lo l e = go (entry_ok p lo l) refl (λ q. used_fits p n (key_of l + 1) (next_of l) q) e
  where
    go :
        (b : Bool) → entry_ok p lo l ≡ b →
        (list_ok p n (key_of l + 1) (next_of l) ≡ true → used_of n (next_of l) ≤ length (next_of l)) →
        pick b (list_ok p n (key_of l + 1) (next_of l)) false ≡ true → ENTRY_HEAD + len_of l + used_of n (next_of l) ≤ length l
    go true q f e =
        let t = there p lo l q in
        let r = t.room in let k = f e in omega (arith, length-drop (ENTRY_HEAD + len_of l) l)
    go false q f e = let z : ◌≡◌ {A = ℕ} 0 1 = cc in omega arith

-- list j of a block as it was read: where it starts, the entries and the bytes that it is to have, and where its entries end
pub record ListRead (x : List ℕ) (j at n size : ℕ) (e : Option ℕ) : Type 0 where
  pub within : at ≤ length x
  pub place : at ≡ start_of x j
  pub count : n ≡ count_at x j
  pub bytes : size ≡ size_at x j
  pub last : e ≡ pick (list_ok (list_key_ok (by_vkey j)) n 0 (drop at x)) (Some (at + used_of n (drop at x))) None

module _ (x : List ℕ) (j at n size : ℕ) (e : Option ℕ) (r : ListRead x j at n size e) where
  one : one_ok x j ≡ pick (list_ok (list_key_ok (by_vkey j)) n 0 (drop at x)) (eqb (used_of n (drop at x)) size) false
  unfolding one_ok
  one = rw (r.place, r.count, r.bytes)

  -- it is in order if its entries end where it does
  pub one_is : one_ok x j ≡ option_eq eqb e (Some (at + size))
  one_is = one ∙ go (list_ok (list_key_ok (by_vkey j)) n 0 (drop at x)) r.last
    where
      go : (b : Bool) → e ≡ pick b (Some (at + used_of n (drop at x))) None → pick b (eqb (used_of n (drop at x)) size) false ≡ option_eq eqb e (Some (at + size))
      go true k = rw k (grind (arith, nat_tests))
      go false k = rw k

  pub one_room : option_eq eqb e (Some (at + size)) ≡ true → at + size ≤ length x
  one_room q =
      let f = found (list_ok (list_key_ok (by_vkey j)) n 0 (drop at x)) _ (sym (same e q) ∙ r.last) in
      let v = f.1 in
      let w = r.within in
      omega (arith, used_fits (list_key_ok (by_vkey j)) n 0 (drop at x) f.0, length-drop at x)
    where
      same : (o : Option ℕ) → option_eq eqb o (Some (at + size)) ≡ true → o ≡ Some (at + size)
      same (Some k) q = ap (λ (i : ℕ). Some i) (eqb-true k (at + size) q)
      same None q = absurd (cc)

pub lists_end :
    (x : List ℕ) (j at : ℕ) → LISTS ≤ j → j ≤ LISTS → at ≡ start_of x j →
    every (one_ok x) LISTS 0 ≡ every (one_ok x) (LISTS - j) j → eqb at (length x) ≡ lists_ok x
unfolding lists_ok
lists_end x j at a b s e =
    let k : j ≡ LISTS = omega arith in
    let f : every (one_ok x) LISTS 0 ≡ true = e ∙ every_end (one_ok x) LISTS j a in rw (f, s, k)

pub lists_stop : (x : List ℕ) (b : Bool) → every (one_ok x) LISTS 0 ≡ b → b ≡ false → false ≡ lists_ok x
unfolding lists_ok
lists_stop x b e f = rw (e ∙ f)

pub start_step : (x : List ℕ) (i at s : ℕ) → at ≡ start_of x i → s ≡ size_at x i → at + s ≡ start_of x (i + 1)
unfolding start_of
start_step x i at s a b = rw (add-one, ← a, ← b)
