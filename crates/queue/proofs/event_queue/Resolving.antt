-- The entry that carries a token resolved: the first one, which empties the queue and hands out the complete ones, or a later one, which waits.
-- Assumes nothing.
use Rattle.std.specs.Prelude.{Option, Some, None}
use mathlib.Core.Path.{◌≡◌, refl, sym, ap, ◌∙◌}
use mathlib.Core.Bool.{Bool, true, false}
use mathlib.Core.List.{List, [], ◌∷◌}
use Prim.Native.Nat.{ℕ, suc, ◌+◌, ◌*◌, ◌<◌}
use native.Mathlib.Omega.{arith}
use lib.Dec.{eqb}
use lib.ListN.{get_or, length, drop, length-drop}
use Rattle.area.specs.Bytes.{le}
use Rattle.area.specs.Pick.{pick}
use Rattle.area.specs.Splice.{splice}
use Rattle.area.specs.Zero.{zero_from}
use Rattle.area.proofs.Splice.{chain}
use Rattle.session.specs.Limits.{AREA, ENTRIES_MOST, ANSWER_EVENTS_AT, ANSWER_EVENT_SIZE}
use Rattle.session.specs.Event.{Event}
use Rattle.session.specs.Session.{Entry, Session, token_of, event_fits, all_fit}
use Rattle.session.specs.Codec.{put_many}
use Rattle.session.specs.Area.{event, encode, decode, encode_answer}
use Rattle.session.specs.Calls.{in_place, resolve, is_first, drain, resolved}
use Rattle.session.proofs.Area.{EntryFits, event-sound, event-width}
use Rattle.session.proofs.Writes.{Handing}
use Rattle.queue.specs.Changed.{emptied, with_resolved, resolved_by, Does, Written}
use Rattle.queue.specs.Place.{place_of_token, StandsAt}
use Rattle.queue.proofs.Areas.{kept}
use Rattle.queue.proofs.answers.AnswerArea.{ended}
use Rattle.queue.proofs.event_queue.EventOfEntry.{all_drop, each}
use Rattle.queue.proofs.event_queue.Draining.{drain_most, drain_fit}

-- ---- whether the entry that carries the token is the first

first_by : (b : Bool) (t : ℕ) (x : Entry) (r : List Entry) → eqb t (token_of x) ≡ b → place_of_token t (x ∷ r) ≡ 0 → eqb t (token_of x) ≡ true
unfolding place_of_token
first_by true t x r e p = e
first_by false t x r e p = let i : pick false 0 (suc (place_of_token t r)) ≡ 0 = rw e at p in absurd (omega arith)

later_by : (b : Bool) (t : ℕ) (x : Entry) (r : List Entry) → eqb t (token_of x) ≡ b → (place_of_token t (x ∷ r) ≡ 0 → ⊥) → eqb t (token_of x) ≡ false
unfolding place_of_token
later_by true t x r e p = absurd (p (rw e refl))
later_by false t x r e p = e

first_leaves :
    (s : Session) (t : ℕ) (o : Option Event) (es : List Entry) → s.entries ≡ es → place_of_token t es ≡ 0 → 0 < length es →
    ((resolved (is_first t es) s t o s.held).after ≡ emptied s)
    × ((resolved (is_first t es) s t o s.held).events ≡ drain (in_place t o (drop 1 es)))
unfolding is_first resolve resolved
first_leaves s t o [] q p h = absurd (omega arith)
first_leaves s t o (x ∷ r) q p h =
    let e : eqb t (token_of x) ≡ true = first_by (eqb t (token_of x)) t x r refl p in
    (rw e refl, rw (e, q, e) refl)

later_leaves :
    (s : Session) (t : ℕ) (o : Option Event) (es : List Entry) → (place_of_token t es ≡ 0 → ⊥) →
    ((resolved (is_first t es) s t o s.held).after ≡ with_resolved s t o)
    × ((resolved (is_first t es) s t o s.held).events ≡ [])
unfolding is_first resolved
later_leaves s t o [] p = (refl, refl)
later_leaves s t o (x ∷ r) p =
    let e : eqb t (token_of x) ≡ false = later_by (eqb t (token_of x)) t x r refl p in
    (rw e refl, rw e refl)

-- ---- what the writes make of the two areas

module _ (x : List ℕ) (b : (i : ℕ) → get_or x i 0 < 256) (t place : ℕ) (a : StandsAt x t place) where
  some_entry : 0 < length (decode x).entries
  some_entry = let h : place < length (decode x).entries = a.within in omega arith

  pub rest_most : length (drain (drop 1 (decode x).entries)) < ENTRIES_MOST
  rest_most =
      let es = (decode x).entries in
      omega (arith, drain_most (drop 1 es), length-drop 1 es, (kept x b a.area).0.1.0, some_entry)

  rest_fit : all_fit (drain (drop 1 (decode x).entries)) ≡ true
  rest_fit = let es = (decode x).entries in drain_fit (drop 1 es) (all_drop EntryFits 1 es (each x b a.area))

  -- the first entry: its event before those of the entries behind it
  pub first_completed :
      (v : Event) → event_fits v ≡ true → (y : List ℕ) → length y ≡ AREA → place ≡ 0 → {j m n : ℕ} {x₁ y₁ y₂ z w : List ℕ} →
      (x₁ ≡ x) × (y₁ ≡ splice ANSWER_EVENTS_AT (event.put v) y) → Written j (drain (drop m (decode x₁).entries)) y₁ y₂ n →
      z ≡ zero_from (ANSWER_EVENTS_AT + ANSWER_EVENT_SIZE * n) (splice 0 (le 2 n) y₂) → w ≡ encode (emptied (decode x₁)) →
      j ≡ 1 → m ≡ 1 → Does (resolved_by (decode x) t (Some v)) w z
  unfolding put_many all_fit in_place drain
  first_completed v f y l p {j} {m} {n} {x₁} {y₁} {y₂} q₁ q₂ q₃ q₄ u₂ u₃ =
      let s = decode x in
      let e = q₁.0 in
      let d = drain (drop 1 s.entries) in
      let w = first_leaves s t (Some v) s.entries refl (sym a.found ∙ p) some_entry in
      let i : length (event.put v) ≡ ANSWER_EVENT_SIZE = event-sound.sized v f ∙ event-width in
      let g : Handing (v ∷ d) y y₂ = chain 2 ANSWER_EVENT_SIZE (event.put v) (put_many event d) y i q₁.1 (q₂.bytes ∙ rw (u₂, u₃, e) refl) in
      let c : n ≡ suc (length d) = q₂.count ∙ rw (u₂, u₃, e) (omega arith) in
      record { session = q₄ ∙ ap (λ (l : List ℕ). encode (emptied (decode l))) e ∙ sym (ap encode w.0); answers = ended (v ∷ d) y (rw f rest_fit) (omega (arith, rest_most)) l g q₃ c ∙ sym (ap encode_answer w.1) }

  -- the first entry: the events of the entries behind it
  pub first_removed :
      (y : List ℕ) → length y ≡ AREA → place ≡ 0 → {j m n : ℕ} {y₂ z w : List ℕ} → Written j (drain (drop m (decode x).entries)) y y₂ n →
      z ≡ zero_from (ANSWER_EVENTS_AT + ANSWER_EVENT_SIZE * n) (splice 0 (le 2 n) y₂) → w ≡ encode (emptied (decode x)) → j ≡ 0 → m ≡ 1 →
      Does (resolved_by (decode x) t None) w z
  unfolding in_place
  first_removed y l p {j} {m} {n} {y₂} q₂ q₃ q₄ u₂ u₃ =
      let s = decode x in
      let d = drain (drop 1 s.entries) in
      let w = first_leaves s t None s.entries refl (sym a.found ∙ p) some_entry in
      let g : Handing d y y₂ = q₂.bytes ∙ rw (u₂, u₃) refl in
      let c : n ≡ length d = q₂.count ∙ rw (u₂, u₃) (omega arith) in
      record { session = q₄ ∙ sym (ap encode w.0); answers = ended d y rest_fit (omega (arith, rest_most)) l g q₃ c ∙ sym (ap encode_answer w.1) }

  -- a later one
  pub later :
      (o : Option Event) → (place ≡ 0 → ⊥) → {z w : List ℕ} → z ≡ encode_answer [] → w ≡ encode (with_resolved (decode x) t o) →
      Does (resolved_by (decode x) t o) w z
  later o p q₁ q₂ =
      let w = later_leaves (decode x) t o (decode x).entries (λ i. p (a.found ∙ i)) in
      record { session = q₂ ∙ sym (ap encode w.0); answers = q₁ ∙ sym (ap encode_answer w.1) }
