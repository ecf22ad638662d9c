-- An event that stands where it goes, written as a whole or from its last field to its first.
-- Assumes nothing.
use mathlib.Core.Path.{◌≡◌, refl, ap, ◌∙◌}
use mathlib.Core.List.{List, ◌++◌, append_assoc}
use Prim.Native.Nat.{ℕ, zero, suc, ◌+◌, ◌*◌, ◌≤◌, ◌<◌}
use native.Mathlib.Omega.{arith}
use lib.ListN.{get_or, length, take, drop}
use lib.Seq.{take_at, drop_at, length-take-le}
use Rattle.area.specs.Splice.{splice}
use Rattle.area.proofs.Splice.{chain_down, length-splice, splice_eq}
use Rattle.session.specs.Limits.{AREA, ENTRIES_MOST, ANSWER_EVENTS_AT}
use Rattle.queue.specs.Place.{StandsAt}
use Rattle.queue.specs.Stands.{event_place, FieldStands}
use Rattle.queue.proofs.pending.EntryOfToken.{place-few, token_below}

-- ---- one write, into the area that the place tells

pub stands-first :
    (place off : ℕ) (b x y : List ℕ) {k : ℕ} {y' : List ℕ} → place ≡ 0 → y' ≡ splice k b y → k ≡ ANSWER_EVENTS_AT + off → FieldStands place off b x y x y'
stands-first place off b x y e p u = record { first = λ i. (refl, p ∙ rw u refl); later = λ n. absurd (n e) }

pub stands-later :
    (place off : ℕ) (b x y : List ℕ) {k : ℕ} {x' : List ℕ} → (place ≡ 0 → ⊥) → x' ≡ splice k b x → k ≡ event_place place + off → FieldStands place off b x y x' y
stands-later place off b x y n p u = record { first = λ i. absurd (n i); later = λ m. (p ∙ rw u refl, refl) }

-- ---- two that meet, the later field first

pub stands-down :
    (place off n : ℕ) (a b : List ℕ) {x y x₁ y₁ x₂ y₂ : List ℕ} → length a ≡ n → FieldStands place (off + n) b x y x₁ y₁ →
    FieldStands place off a x₁ y₁ x₂ y₂ → FieldStands place off (a ++ b) x y x₂ y₂
stands-down place off n a b {x} {y} {x₁} {y₁} l p q =
    record {
      first = λ e.
          let u = p.first e in
          let v = q.first e in
          let k : ANSWER_EVENTS_AT + (off + n) ≡ ANSWER_EVENTS_AT + off + n = omega arith in
          (v.0 ∙ u.0, chain_down (ANSWER_EVENTS_AT + off) n a b y l (u.1 ∙ rw k refl) v.1);
      later = λ e.
          let u = p.later e in
          let v = q.later e in
          let k : event_place place + (off + n) ≡ event_place place + off + n = omega arith in
          (chain_down (event_place place + off) n a b x l (u.0 ∙ rw k refl) v.0, v.1 ∙ u.1);
    }

-- ---- bytes that were written stand there

pub spliced : (at n : ℕ) (s y : List ℕ) → length s ≡ n → at + n ≤ length y → take n (drop at (splice at s y)) ≡ s
spliced at n s y l h =
    let g : at + length s ≤ length y = omega arith in
    let r = drop (at + length s) y in
    rw (splice_eq s y at g, append_assoc, drop_at (take at y) (s ++ r) at (length-take-le at y (omega arith))) (take_at s r n l)

-- ---- no area changes its length

pub same_lengths :
    (place : ℕ) {off : ℕ} {b x y x' y' : List ℕ} → FieldStands place off b x y x' y' → (length x' ≡ length x) × (length y' ≡ length y)
same_lengths zero {off} {b} {x} {y} s = let f = s.first refl in (ap length f.0, ap length f.1 ∙ length-splice (ANSWER_EVENTS_AT + off) b y)
same_lengths (suc n) {off} {b} {x} {y} s =
    let l = s.later (λ e. omega arith) in (ap length l.0 ∙ length-splice (event_place (suc n) + off) b x, ap length l.1)

-- ---- what `complete_pending` asks for, once the event stands

pub ready :
    (x : List ℕ) → ((i : ℕ) → get_or x i 0 < 256) → (t place : ℕ) → StandsAt x t place → {off : ℕ} {b y x' y' : List ℕ} →
    FieldStands place off b x y x' y' → length y ≡ AREA →
    (length x' ≡ AREA) × (length y' ≡ AREA) × (place < ENTRIES_MOST) × (t < 65536) × (place ≡ 0 → StandsAt x' t place)
ready x w t place a s m =
    let l = same_lengths place s in
    (l.0 ∙ a.area.size, l.1 ∙ m, place-few x w t place a, token_below x w t place a, λ e. rw (s.first e).0 a)
