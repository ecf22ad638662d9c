-- Loops over the entries of an area: the place of a token, the latest open message.
-- Assumes nothing.
use Rattle.std.specs.Prelude.{Option, Some, None}
use mathlib.Core.Path.{◌≡◌, refl, sym, ◌∙◌}
use mathlib.Core.Bool.{Bool}
use mathlib.Core.List.{List, ◌∷◌}
use Prim.Native.Nat.{ℕ, suc, ◌+◌, ◌-◌, ◌*◌, ◌≤◌, ◌<◌}
use native.Mathlib.Nat.{add-zero}
use native.Mathlib.Numerals.{add-one}
use native.Mathlib.Omega.{arith}
use lib.Dec.{eqb}
use lib.ListN.{length, take, drop, get_or, drop_of_length-le}
use lib.Seq.{get_or-drop}
use borrow.Author.Tests.{eq-eqb, ne_eqb}
use Rattle.area.specs.Pick.{pick}
use Rattle.area.specs.Bytes.{num}
use Rattle.area.proofs.Bytes.{num-drop}
use Rattle.area.proofs.Splice.{part_rest}
use Rattle.session.specs.Limits.{ENTRIES_AT, ENTRY_SIZE}
use Rattle.session.specs.Session.{Entry, token_of, open_count}
use Rattle.session.specs.Codec.{get_many}
use Rattle.session.specs.Area.{entry, decode}
use Rattle.session.specs.Questions.{latest, last_token, is_token}
use Rattle.record.proofs.read.Entries.{decode_got}
use Rattle.record.proofs.read.Walk.{entries_got, entry-at, read_as}
use Rattle.queue.specs.Room.{IsArea}
use Rattle.queue.specs.Place.{place_of_token}
use Rattle.queue.proofs.Areas.{count_most}

-- ---- each entry stands within the area

module _ (x : List ℕ) (b : (i : ℕ) → get_or x i 0 < 256) (r : IsArea x) where
  pub within : (i : ℕ) → i < length (decode x).entries → ENTRIES_AT + ENTRY_SIZE * i + ENTRY_SIZE ≤ length x
  within i h = omega (arith, count_most x b r, r.size)

-- ---- the place of a token: a loop that has come to entry i and not met it

abbrev pub Sought : ℕ → List ℕ → ℕ → Type 0
Sought t x i = place_of_token t (decode x).entries ≡ i + place_of_token t (drop i (decode x).entries)

module _ (t : ℕ) (x : List ℕ) (i : ℕ) (inv : Sought t x i) where
  module _ (h : i < length (decode x).entries) {u k : ℕ} (e : u ≡ token_of (entry.get (take (length x - k) (drop k x)))) (f : k ≡ ENTRIES_AT + ENTRY_SIZE * i) where
    here : place_of_token t (decode x).entries ≡ i + pick (eqb t u) 0 (suc (place_of_token t (drop (i + 1) (decode x).entries)))
    unfolding place_of_token
    here =
        let p : token_of (entry.get (drop (ENTRIES_AT + ENTRY_SIZE * i) x)) ≡ u = sym (e ∙ rw (part_rest k x, f)) in
        inv ∙ rw (entry-at x i h, p, add-one i)

    pub sought_at : u ≡ t → i ≡ place_of_token t (decode x).entries
    sought_at a = sym (here ∙ rw (eq-eqb t u (sym a), add-zero))

    pub sought_next : (u ≡ t → ⊥) → Sought t x (i + 1)
    sought_next a = let p = rw (ne_eqb t u (λ b. a (sym b))) at here in omega arith

-- ---- the latest open message: a loop that has come to entry i, b the answer if no entry from there on is open

abbrev pub is_token_or : Bool → ℕ → Option ℕ → Bool
is_token_or b t None = b
is_token_or b t (Some u) = eqb t u

latest-or : (b : Bool) (t u : ℕ) (o : Option ℕ) → is_token_or b t (latest o u) ≡ is_token_or (eqb t u) t o
latest-or b t u None = refl
latest-or b t u (Some v) = refl

last-read :
    (b : Bool) (t : ℕ) (l : List ℕ) (r : List Entry) →
    is_token_or b t (last_token (entry.get l ∷ r)) ≡ pick (eqb (get_or l 2 0) 0) (is_token_or (eqb t (num 2 0 l)) t (last_token r)) (is_token_or b t (last_token r))
unfolding last_token
last-read b t l r = read_as (λ y. is_token_or b t (last_token (y ∷ r))) l ∙ rw (latest-or b t (num 2 0 l) (last_token r))

abbrev pub Latest : ℕ → List ℕ → ℕ → Bool → Type 0
Latest t x i b = is_token t (last_token (decode x).entries) ≡ is_token_or b t (last_token (drop i (decode x).entries))

module _ (t : ℕ) (x : List ℕ) (i : ℕ) (b : Bool) (inv : Latest t x i b) where
  module _ (h : i < length (decode x).entries) where
    one :
        is_token t (last_token (decode x).entries) ≡ pick (eqb (get_or x (ENTRIES_AT + ENTRY_SIZE * i + 2) 0) 0) (is_token_or (eqb t (num 2 (ENTRIES_AT + ENTRY_SIZE * i) x)) t (last_token (drop (i + 1) (decode x).entries))) (is_token_or b t (last_token (drop (i + 1) (decode x).entries)))
    one =
        let l = drop (ENTRIES_AT + ENTRY_SIZE * i) x in
        inv ∙ rw (entry-at x i h, last-read b t l, get_or-drop (ENTRIES_AT + ENTRY_SIZE * i) x 2 0, num-drop 2 0 (ENTRIES_AT + ENTRY_SIZE * i) x, add-zero, add-one i)

    pub latest_open : {u : ℕ} {d : Bool} → get_or x (ENTRIES_AT + ENTRY_SIZE * i + 2) 0 ≡ 0 → u ≡ num 2 (ENTRIES_AT + ENTRY_SIZE * i) x → d ≡ eqb t u → Latest t x (i + 1) d
    latest_open e f g = one ∙ rw (eq-eqb (get_or x (ENTRIES_AT + ENTRY_SIZE * i + 2) 0) 0 e, g, f)

    pub latest-same : {d : Bool} → (get_or x (ENTRIES_AT + ENTRY_SIZE * i + 2) 0 ≡ 0 → ⊥) → d ≡ b → Latest t x (i + 1) d
    latest-same e g = one ∙ rw (ne_eqb (get_or x (ENTRIES_AT + ENTRY_SIZE * i + 2) 0) 0 e, g)

  pub latest_end : length (decode x).entries ≤ i → b ≡ is_token t (last_token (decode x).entries)
  unfolding last_token
  latest_end h = sym (inv ∙ rw (drop_of_length-le (decode x).entries h))

-- ---- the open messages

pub counted :
    (x : List ℕ) {n k r : ℕ} → r ≡ open_count (get_many entry n (take (length x - k) (drop k x))) → n ≡ length (decode x).entries → k ≡ ENTRIES_AT →
    r ≡ open_count (decode x).entries
counted x {k = k} p e f = p ∙ rw (part_rest k x, f, e, (decode_got x).2, entries_got x)
