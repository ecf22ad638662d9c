-- The count and the zeros behind: they make an area in which events stand the answer area of those events.
-- Assumes nothing.
use mathlib.Core.Path.{◌≡◌, refl, ap, ◌∙◌}
use mathlib.Core.Bool.{true}
use mathlib.Core.List.{List, [], ◌∷◌}
use Prim.Native.Nat.{ℕ, ◌+◌, ◌*◌, ◌≤◌}
use native.Mathlib.Omega.{arith}
use lib.ListN.{length}
use Rattle.area.specs.Bytes.{le}
use Rattle.area.specs.Splice.{splice}
use Rattle.area.specs.Zero.{zero_from}
use Rattle.session.specs.Limits.{AREA, ENTRIES_MOST, ANSWER_EVENTS_AT, ANSWER_EVENT_SIZE}
use Rattle.session.specs.Event.{Event}
use Rattle.session.specs.Session.{event_fits, all_fit}
use Rattle.session.specs.Area.{event, encode_answer}
use Rattle.session.proofs.Writes.{Handing, event_none, event-put, answer_done}

-- what `close` does
pub closed :
    (n : ℕ) (x : List ℕ) {k m : ℕ} {y z : List ℕ} → y ≡ splice 0 (le 2 m) x → z ≡ zero_from k y → m ≡ n → k ≡ ANSWER_EVENTS_AT + ANSWER_EVENT_SIZE * n →
    z ≡ zero_from (ANSWER_EVENTS_AT + ANSWER_EVENT_SIZE * n) (splice 0 (le 2 n) x)
closed n x p q u v = rw (q, p, u, v) refl

-- .. behind events that are written
pub ended :
    (es : List Event) (y₀ : List ℕ) {n : ℕ} {y z : List ℕ} → all_fit es ≡ true → length es ≤ ENTRIES_MOST → length y₀ ≡ AREA → Handing es y₀ y →
    z ≡ zero_from (ANSWER_EVENTS_AT + ANSWER_EVENT_SIZE * n) (splice 0 (le 2 n) y) → n ≡ length es → z ≡ encode_answer es
ended es y₀ {n} {y} f h l p q u =
    answer_done es y₀ (ANSWER_EVENTS_AT + ANSWER_EVENT_SIZE * n) f h l (ap (λ (m : ℕ). ANSWER_EVENTS_AT + ANSWER_EVENT_SIZE * m) u) p (ap (λ (m : ℕ). splice 0 (le 2 m) y) u) q

pub ended_none :
    (y : List ℕ) {n : ℕ} {z : List ℕ} → length y ≡ AREA → z ≡ zero_from (ANSWER_EVENTS_AT + ANSWER_EVENT_SIZE * n) (splice 0 (le 2 n) y) → n ≡ 0 → z ≡ encode_answer []
unfolding all_fit
ended_none y l q u = ended [] y refl (omega arith) l (event_none y) q u

-- an event in the first place
pub first-put : (e : Event) (x : List ℕ) {k : ℕ} {y : List ℕ} → y ≡ splice k (event.put e) x → k ≡ ANSWER_EVENTS_AT → Handing (e ∷ []) x y
unfolding all_fit
first-put e x p u = event-put [] e x ANSWER_EVENTS_AT refl refl (event_none x) (p ∙ rw u)

pub ended-one :
    (e : Event) (x : List ℕ) {k n : ℕ} {y z : List ℕ} → event_fits e ≡ true → length x ≡ AREA → y ≡ splice k (event.put e) x →
    z ≡ zero_from (ANSWER_EVENTS_AT + ANSWER_EVENT_SIZE * n) (splice 0 (le 2 n) y) → k ≡ ANSWER_EVENTS_AT → n ≡ 1 → z ≡ encode_answer (e ∷ [])
unfolding all_fit
ended-one e x f l p q u v = ended (e ∷ []) x (rw f) (omega arith) l (first-put e x p u) q v
