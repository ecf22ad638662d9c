-- An entry of an area: what it drains to, and where the bytes of its event stand.
-- Assumes nothing.
use mathlib.Core.Path.{◌≡◌, refl, sym, ap, ◌∙◌}
use mathlib.Core.List.{List, [], ◌∷◌, ◌++◌, append_assoc}
use Prim.Native.Nat.{ℕ, zero, suc, ◌+◌, ◌*◌, ◌≤◌, ◌<◌}
use native.Mathlib.Omega.{arith}
use lib.ListN.{get_or, length, take, drop, length-append, take-append-drop}
use lib.Seq.{length-take-le, get_or-drop}
use borrow.Author.Tests.{eq-eqb, ne_eqb}
use Rattle.area.specs.Bytes.{le, num}
use Rattle.area.specs.Splice.{splice}
use Rattle.area.proofs.Bytes.{length-le}
use Rattle.area.proofs.Splice.{merge, length-splice}
use Rattle.session.specs.Limits.{AREA, ANSWER_EVENTS_AT, ANSWER_EVENT_SIZE, ENTRIES_AT, ENTRY_SIZE}
use Rattle.session.specs.Event.{Event}
use Rattle.session.specs.Session.{Entry, complete, entry_fits}
use Rattle.session.specs.Codec.{number, pair, via, either, put_many}
use Rattle.session.specs.Area.{event, entry, decode}
use Rattle.session.specs.Calls.{drain}
use Rattle.session.proofs.Codec.{All}
use Rattle.session.proofs.Area.{EntryFits, event-sound, event-width}
use Rattle.session.proofs.Writes.{entry_over, many_one}
use Rattle.record.proofs.read.Walk.{entry-at, read_as}
use Rattle.queue.specs.Changed.{Written}
use Rattle.queue.specs.Room.{IsArea}
use Rattle.queue.proofs.Areas.{kept}
use Rattle.queue.proofs.Standing.{spliced}

-- ---- parts of a list

pub all_take : {A : Type 0} (F : A → Type 0) (n : ℕ) (l : List A) → All F l → All F (take n l)
all_take F zero l h = tt
all_take F (suc n) [] h = tt
all_take F (suc n) (a ∷ l) h = (h.0, all_take F n l h.1)

pub all_drop : {A : Type 0} (F : A → Type 0) (n : ℕ) (l : List A) → All F l → All F (drop n l)
all_drop F zero l h = h
all_drop F (suc n) [] h = tt
all_drop F (suc n) (a ∷ l) h = all_drop F n l h.1

-- the event of a complete entry that is written stands behind its token and its mark
event-within :
    (at t : ℕ) (e : Event) (x : List ℕ) → length (event.put e) ≡ ANSWER_EVENT_SIZE → at + ENTRY_SIZE ≤ length x → splice at (entry.put (complete t e)) x ≡ x →
    take ANSWER_EVENT_SIZE (drop (at + 3) x) ≡ event.put e
unfolding entry via pair number either
event-within at t e x l h p =
    let a = le 2 t ++ (1 ∷ []) in
    let v = event.put e in
    let y = splice at a x in
    let m : length a ≡ 3 = length-append (le 2 t) (1 ∷ []) ∙ omega (arith, length-le 2 t) in
    let q : splice (at + 3) v y ≡ x = merge at 3 a v x m ∙ ap (λ (s : List ℕ). splice at s x) (append_assoc (le 2 t) (1 ∷ []) v) ∙ p in
    let s : take (length v) (drop (at + 3) (splice (at + 3) v y)) ≡ v = spliced (at + 3) (length v) v y refl (omega (arith, length-splice at a x)) in
    rw (q, l) at s

-- the entry that is read at place i
abbrev entry_at_lem : List ℕ → ℕ → Entry
entry_at_lem x i = entry.get (drop (ENTRIES_AT + ENTRY_SIZE * i) x)

-- what entry i drains to
abbrev pub drained_at : List ℕ → ℕ → List Event
drained_at x i = drain (take 1 (drop i (decode x).entries))

module _ (x : List ℕ) (b : (i : ℕ) → get_or x i 0 < 256) (r : IsArea x) where
  pub each : All EntryFits (decode x).entries
  each = (kept x b r).0.1.1

  module _ (i : ℕ) (h : i < length (decode x).entries) where
    pub place-within : ENTRIES_AT + ENTRY_SIZE * i + ENTRY_SIZE ≤ AREA
    place-within = omega (arith, (kept x b r).0.1.0)

    entry-fits : EntryFits (entry_at_lem x i)
    entry-fits = let f = all_drop EntryFits i (decode x).entries each in (rw (entry-at x i h) at f).0

    -- the entry written again changes nothing
    again : splice (ENTRIES_AT + ENTRY_SIZE * i) (entry.put (entry_at_lem x i)) x ≡ x
    again =
        let s = decode x in
        let o = kept x b r in
        let A = take i s.entries in
        let B = drop (suc i) s.entries in
        let q : s.entries ≡ A ++ (entry_at_lem x i ∷ B) = sym (take-append-drop i s.entries) ∙ ap (λ (l : List Entry). A ++ l) (entry-at x i h) in
        let n : length A ≡ i = length-take-le i s.entries (omega arith) in
        let w = entry_over s o.0 A (entry_at_lem x i) B q (entry_at_lem x i) entry-fits in
        rw (n, ← q, o.1) at w

    -- told apart by its mark
    is_waiting : get_or x (ENTRIES_AT + ENTRY_SIZE * i + 2) 0 ≡ 0 → drained_at x i ≡ []
    unfolding drain
    is_waiting m =
        let l = drop (ENTRIES_AT + ENTRY_SIZE * i) x in
        rw (entry-at x i h) (read_as (λ z. drain (z ∷ [])) l ∙ rw (get_or-drop (ENTRIES_AT + ENTRY_SIZE * i) x 2 0, eq-eqb (get_or x (ENTRIES_AT + ENTRY_SIZE * i + 2) 0) 0 m) refl)

    module _ (m : get_or x (ENTRIES_AT + ENTRY_SIZE * i + 2) 0 ≡ 0 → ⊥) where
      is_complete : entry_at_lem x i ≡ complete (num 2 0 (drop (ENTRIES_AT + ENTRY_SIZE * i) x)) (event.get (drop 3 (drop (ENTRIES_AT + ENTRY_SIZE * i) x)))
      is_complete = read_as (λ z. z) (drop (ENTRIES_AT + ENTRY_SIZE * i) x) ∙ rw (get_or-drop (ENTRIES_AT + ENTRY_SIZE * i) x 2 0, ne_eqb (get_or x (ENTRIES_AT + ENTRY_SIZE * i + 2) 0) 0 m) refl

      drained_one : drained_at x i ≡ event.get (drop 3 (drop (ENTRIES_AT + ENTRY_SIZE * i) x)) ∷ []
      unfolding drain
      drained_one = rw (entry-at x i h, is_complete) refl

      event-length : length (event.put (event.get (drop 3 (drop (ENTRIES_AT + ENTRY_SIZE * i) x)))) ≡ ANSWER_EVENT_SIZE
      unfolding entry_fits
      event-length =
          let e = event.get (drop 3 (drop (ENTRIES_AT + ENTRY_SIZE * i) x)) in
          let f = entry-fits in
          event-sound.sized e (rw is_complete at f).1 ∙ event-width

      -- its bytes are those of what it drains to
      bytes_one : take ANSWER_EVENT_SIZE (drop (ENTRIES_AT + ENTRY_SIZE * i + 3) x) ≡ put_many event (drained_at x i)
      bytes_one =
          let l = drop (ENTRIES_AT + ENTRY_SIZE * i) x in
          let e = event.get (drop 3 l) in
          let q = again in
          event-within (ENTRIES_AT + ENTRY_SIZE * i) (num 2 0 l) e x event-length (omega (arith, place-within, r.size)) (rw is_complete at q)
          ∙ sym (ap (put_many event) drained_one ∙ many_one event e)

    -- ---- what `drain_one` does

    pub passed_by :
        (at : ℕ) (y : List ℕ) {k n : ℕ} → get_or x k 0 ≡ 0 → k ≡ ENTRIES_AT + ENTRY_SIZE * i + 2 → n ≡ at →
        Written at (drained_at x i) y y n
    unfolding put_many splice
    passed_by at y m u v =
        let d = is_waiting (rw u at m) in
        record { count = v ∙ rw d (omega arith); bytes = rw d refl }

    pub copied :
        (at : ℕ) (y : List ℕ) {k f t c n : ℕ} {z : List ℕ} → (get_or x k 0 ≡ 0 → ⊥) → z ≡ splice t (take c (drop f x)) y →
        k ≡ ENTRIES_AT + ENTRY_SIZE * i + 2 → f ≡ ENTRIES_AT + ENTRY_SIZE * i + 3 → t ≡ ANSWER_EVENTS_AT + ANSWER_EVENT_SIZE * at → c ≡ ANSWER_EVENT_SIZE → n ≡ at + 1 →
        Written at (drained_at x i) y z n
    copied at y m p u₁ u₂ u₃ u₄ u₅ =
        let w : get_or x (ENTRIES_AT + ENTRY_SIZE * i + 2) 0 ≡ 0 → ⊥ = rw u₁ at m in
        record { count = u₅ ∙ rw (drained_one w) refl; bytes = p ∙ rw (u₃, u₄, u₂, bytes_one w) refl }
