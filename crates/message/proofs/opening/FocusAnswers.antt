-- The events of a focus change written to the answer area, one behind the other.
-- Assumes nothing.
use mathlib.Core.Path.{◌≡◌, refl, sym, ap, ◌∙◌}
use mathlib.Core.Bool.{true}
use mathlib.Core.List.{List, [], ◌∷◌, map}
use Prim.Native.Nat.{ℕ, ◌+◌, ◌*◌, ◌<◌}
use native.Mathlib.Omega.{arith}
use lib.ListN.{length, take, get_or}
use Rattle.area.specs.Bytes.{le}
use Rattle.area.specs.Splice.{splice}
use Rattle.area.specs.Zero.{zero_from}
use Rattle.area.proofs.Splice.{length-splice}
use Rattle.lookup.specs.Block.{maps_of}
use Rattle.lookup.specs.Maps.{MapsOk}
use Rattle.session.specs.Limits.{AREA, ANSWER_EVENTS_AT, ANSWER_EVENT_SIZE}
use Rattle.session.specs.Codec.{put_many}
use Rattle.session.specs.Event.{Event}
use Rattle.session.specs.Session.{event_fits, all_fit}
use Rattle.session.specs.Area.{event, encode_answer}
use Rattle.session.specs.Focus.{focus_events}
use Rattle.session.specs.declared.ElementState.{ElementState}
use Rattle.session.proofs.Lists.{both}
use Rattle.lookup.proofs.keyboard_layout.Ranges.{scan_code_below}
use Rattle.session.proofs.Fits.{synthetic_fits}
use Rattle.session.proofs.Writes.{Handing, event_none, event-put, answer_done}
use Rattle.event.specs.Written.{keyboard_at}
use Rattle.event.proofs.focus.Events.{event_of, Noted, events_to, one_more, count_to, all_events}

-- events written over an area leave its length
pub handed-length : (es : List Event) (y₀ : List ℕ) {y : List ℕ} → Handing es y₀ y → length y ≡ length y₀
handed-length es y₀ p = ap length p ∙ length-splice ANSWER_EVENTS_AT (put_many event es) y₀

module _ (block state : List ℕ) (st : ElementState) where
  -- none yet
  pub handed_none : (keys y : List ℕ) → Handing (events_to block state st keys 0) y y
  unfolding events_to
  handed_none keys y = event_none y

  module _ (ok : MapsOk (maps_of block)) where
    pub event-fits : (vk : ℕ) → event_fits (event_of block state st vk) ≡ true
    event-fits vk = synthetic_fits (keyboard_at state block) st vk _ ok (scan_code_below (maps_of block) ok vk)

    mapped_fit : (vks : List ℕ) → all_fit (map (event_of block state st) vks) ≡ true
    unfolding all_fit
    mapped_fit [] = refl
    mapped_fit (vk ∷ vks) = both (event_fits (event_of block state st vk)) (all_fit (map (event_of block state st) vks)) (event-fits vk) (mapped_fit vks)

    events_fit : (keys : List ℕ) (i : ℕ) → all_fit (events_to block state st keys i) ≡ true
    unfolding events_to
    events_fit keys i = mapped_fit (take i keys)

    -- one event more in the answer area
    pub handed-next :
        (keys : List ℕ) (i : ℕ) (e : Event) (y₀ : List ℕ) {y z : List ℕ} → i < length keys → e ≡ event_of block state st (get_or keys i 0) →
        Handing (events_to block state st keys i) y₀ y → z ≡ splice (ANSWER_EVENTS_AT + ANSWER_EVENT_SIZE * i) (event.put e) y → Handing (events_to block state st keys (i + 1)) y₀ z
    handed-next keys i e y₀ {y} {z} h q p w =
        let l = count_to block state st keys i (omega arith) in
        rw (one_more block state st keys i h, ← q) (event-put (events_to block state st keys i) e y₀ (ANSWER_EVENTS_AT + ANSWER_EVENT_SIZE * i) (events_fit keys i) (omega arith) p w)

    -- all of them, their number, and zeros behind
    pub handed_all :
        (keys : List ℕ) (y₀ : List ℕ) {y z : List ℕ} → Noted block state st keys → length y₀ ≡ AREA → Handing (events_to block state st keys (length keys)) y₀ y →
        z ≡ zero_from (ANSWER_EVENTS_AT + ANSWER_EVENT_SIZE * length keys) (splice 0 (le 2 (length keys)) y) → z ≡ encode_answer (focus_events (keyboard_at state block) st)
    handed_all keys y₀ {y} {z} k l p w =
        let n = length keys in
        let c = count_to block state st keys n (omega arith) in
        answer_done (events_to block state st keys n) y₀ (ANSWER_EVENTS_AT + ANSWER_EVENT_SIZE * n) (events_fit keys n) (omega arith) l (omega arith) p refl (w ∙ ap (λ (m : ℕ). zero_from (ANSWER_EVENTS_AT + ANSWER_EVENT_SIZE * n) (splice 0 (le 2 m) y)) (sym c))
        ∙ ap encode_answer (all_events block state st keys k)
