-- The first entry that carries a token, completed or dropped in a session's area; and the queue emptied.
-- Assumes nothing.
use Rattle.std.specs.Prelude.{Option, Some, None}
use mathlib.Core.Path.{◌≡◌, refl, sym, ap, ◌∙◌}
use mathlib.Core.Bool.{Bool, true, false}
use mathlib.Core.List.{List, [], ◌∷◌, ◌++◌}
use Prim.Native.Nat.{ℕ, suc, ◌+◌, ◌-◌, ◌*◌, ◌<◌}
use native.Mathlib.Omega.{arith}
use lib.Dec.{eqb}
use borrow.Author.Tests.{eqb-true}
use lib.ListN.{get_or, length, take, drop, replicate, length-append}
use Rattle.area.specs.Bytes.{le}
use Rattle.area.specs.Pick.{pick}
use Rattle.area.specs.Splice.{splice}
use Rattle.area.specs.Zero.{zero_from}
use Rattle.session.specs.Limits.{ENTRIES_MOST, COUNT_AT, ENTRIES_AT, ENTRY_SIZE}
use Rattle.session.specs.Event.{Event}
use Rattle.session.specs.Session.{Entry, complete, token_of, entry_fits, event_fits}
use Rattle.session.specs.Area.{entry, encode, decode}
use Rattle.session.specs.Calls.{in_place, resolve}
use Rattle.session.proofs.Codec.{All}
use Rattle.session.proofs.Area.{EntryFits}
use Rattle.session.proofs.Writes.{handed-put, entry_over, entry-drop, emptied_zero}
use Rattle.queue.specs.Changed as changed
use Rattle.queue.specs.Changed.{with_resolved}
use Rattle.queue.specs.Room.{IsArea}
use Rattle.queue.specs.Place.{place_of_token, StandsAt}
use Rattle.queue.proofs.Areas.{kept}

-- the entries before it, itself, and those behind
record Found (t : ℕ) (es : List Entry) : Type 0 where
  front : List Entry
  one : Entry
  back : List Entry
  token : eqb t (token_of one) ≡ true
  split : es ≡ front ++ (one ∷ back)
  place : place_of_token t es ≡ length front
  solved : (o : Option Event) → resolve t o es ≡ front ++ in_place t o back

found_first : (t : ℕ) (x : Entry) (r : List Entry) → eqb t (token_of x) ≡ true → Found t (x ∷ r)
unfolding place_of_token resolve
found_first t x r e = record { front = []; one = x; back = r; token = e; split = refl; place = rw e refl; solved = λ o. rw e refl }

found-later : (t : ℕ) (x : Entry) (r : List Entry) → eqb t (token_of x) ≡ false → Found t r → Found t (x ∷ r)
unfolding place_of_token resolve
found-later t x r e f =
    record {
      front = x ∷ f.front;
      one = f.one;
      back = f.back;
      token = f.token;
      split = ap (λ (l : List Entry). x ∷ l) f.split;
      place = rw (e, f.place) refl;
      solved = λ o. rw (e, f.solved o) refl;
    }

found_by : (b : Bool) (t : ℕ) (x : Entry) (r : List Entry) → eqb t (token_of x) ≡ b → place_of_token t (x ∷ r) < length (x ∷ r) → (place_of_token t r < length r → Found t r) → Found t (x ∷ r)
unfolding place_of_token
found_by true t x r e h f = found_first t x r e
found_by false t x r e h f =
    let i : pick false 0 (suc (place_of_token t r)) < suc (length r) = rw e at h in
    found-later t x r e (f (omega arith))

found : (t : ℕ) (es : List Entry) → place_of_token t es < length es → Found t es
found t [] h = absurd (omega arith)
found t (x ∷ r) h = found_by (eqb t (token_of x)) t x r refl h (found t r)

all_at : (A : List Entry) (x : Entry) (B : List Entry) → All EntryFits (A ++ (x ∷ B)) → EntryFits x
all_at [] x B h = h.0
all_at (a ∷ A) x B h = all_at A x B h.1

module _ (x : List ℕ) (b : (i : ℕ) → get_or x i 0 < 256) where
  pub emptied :
      IsArea x →
      {k h : ℕ} {y z : List ℕ} → y ≡ zero_from k x → z ≡ splice 0 (le 2 h) y → k ≡ COUNT_AT → h ≡ 0 →
      z ≡ encode (changed.emptied (decode x))
  emptied r {y = y} p q u v =
      let s = decode x in
      let o = kept x b r in
      q ∙ ap (λ (n : ℕ). splice 0 (le 2 n) y) v ∙ ap (λ (l : List ℕ). splice 0 (le 2 0) l) (p ∙ ap (λ (n : ℕ). zero_from n x) u ∙ ap (zero_from COUNT_AT) (sym o.1) ∙ emptied_zero s o.0)
      ∙ handed-put (record { handed = s.handed; held = s.held; entries = [] }) (o.0.0, (omega arith, tt)) 0

  module _ (t place : ℕ) (a : StandsAt x t place) where
    abbrev r : IsArea x
    r = a.area

    at_place : Found t (decode x).entries
    at_place =
        let e : place ≡ place_of_token t (decode x).entries = a.found in
        let h : place < length (decode x).entries = a.within in
        found t (decode x).entries (omega arith)

    pub place-few : place < ENTRIES_MOST
    place-few = let h : place < length (decode x).entries = a.within in omega (arith, (kept x b r).0.1.0)

    pub token_below : t < 65536
    token_below =
        let f = at_place in
        let i : All EntryFits (f.front ++ (f.one ∷ f.back)) = rw f.split at (kept x b r).0.1.1 in
        let j : token_of f.one < 65536 = (all_at f.front f.one f.back i).0 in
        omega (arith, eqb-true t (token_of f.one) f.token)

    pub completed :
        (v : Event) → event_fits v ≡ true → {k n : ℕ} {y : List ℕ} → y ≡ splice k (entry.put (complete n v)) x → k ≡ ENTRIES_AT + ENTRY_SIZE * place → n ≡ t →
        y ≡ encode (with_resolved (decode x) t (Some v))
    unfolding entry_fits in_place
    completed v g {k} p u w =
        let s = decode x in
        let o = kept x b r in
        let f = at_place in
        p
        ∙ ap (λ (m : ℕ). splice k (entry.put (complete m v)) x) w
        ∙ ap (λ (l : List ℕ). splice k (entry.put (complete t v)) l) (sym o.1)
        ∙ rw (u, a.found, f.place, f.solved (Some v)) (entry_over s o.0 f.front f.one f.back f.split (complete t v) (token_below, g))

    pub dropped :
        {n k₁ k₂ k₃ g c : ℕ} {y z w : List ℕ} → y ≡ splice k₁ (take c (drop (k₁ + g) x)) x → z ≡ splice k₂ (replicate ENTRY_SIZE 0) y → w ≡ splice COUNT_AT (le 2 k₃) z →
        n ≡ length (decode x).entries → k₁ ≡ ENTRIES_AT + ENTRY_SIZE * place → g ≡ ENTRY_SIZE → c ≡ ENTRY_SIZE * (n - 1 - place) → k₂ ≡ ENTRIES_AT + ENTRY_SIZE * (n - 1) → k₃ ≡ n - 1 →
        w ≡ encode (with_resolved (decode x) t None)
    unfolding in_place
    dropped {n} {k₁} {k₂} {k₃} {g} {c} {y} {z} p q w i u₁ u₂ u₃ u₄ u₅ =
        let s = decode x in
        let o = kept x b r in
        let f = at_place in
        let n₁ = length f.front in
        let d = length f.back in
        let l : length s.entries ≡ n₁ + suc d = ap length f.split ∙ length-append f.front (f.one ∷ f.back) in
        let m : place ≡ n₁ = a.found ∙ f.place in
        let v₁ : k₁ ≡ ENTRIES_AT + ENTRY_SIZE * n₁ = omega arith in
        let v₃ : c ≡ ENTRY_SIZE * d = omega arith in
        let v₄ : k₂ ≡ ENTRIES_AT + ENTRY_SIZE * (n₁ + d) = omega arith in
        let v₅ : k₃ ≡ n₁ + d = omega arith in
        let y' : y ≡ splice (ENTRIES_AT + ENTRY_SIZE * n₁) (take (ENTRY_SIZE * d) (drop (ENTRIES_AT + ENTRY_SIZE * n₁ + ENTRY_SIZE) (encode s))) (encode s) = p ∙ rw (v₁, u₂, v₃, o.1) refl in
        let z' : z ≡ splice (ENTRIES_AT + ENTRY_SIZE * (n₁ + d)) (replicate ENTRY_SIZE 0) y = q ∙ rw v₄ refl in
        w ∙ rw (v₅, f.solved None) (entry-drop s o.0 f.front f.one f.back f.split y' z')
