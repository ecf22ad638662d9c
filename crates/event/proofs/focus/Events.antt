-- The events of a focus change: one for each key that it writes, in their order.
-- Assumes nothing.
use Rattle.std.proofs.lemmas.List.{take_all}
use mathlib.Core.Path.{◌≡◌, refl, sym, ap, ◌∙◌}
use mathlib.Core.Bool.{Bool, true, false}
use mathlib.Core.List.{List, [], ◌∷◌, ◌++◌, map, map-append}
use Prim.Native.Nat.{ℕ, ◌+◌, ◌≤◌, ◌<◌}
use native.Mathlib.Omega.{arith}
use native.Mathlib.Numerals.{add-one}
use lib.ListN.{length, take, get_or, length-map}
use lib.Seq.{take-suc, length-take-le}
use Rattle.area.specs.Pick.{pick}
use Rattle.lookup.specs.Block.{maps_of}
use Rattle.lookup.specs.Layout.{scan_code_for}
use Rattle.session.specs.Builder.{Keyboard}
use Rattle.session.specs.Event.{Event}
use Rattle.session.specs.Focus.{focus_keys, written, synthetic_event, synthetic_events, focus_events}
use Rattle.session.specs.declared.ElementState.{ElementState}
use Rattle.event.specs.Written.{keyboard_at, written_of}

-- ---- those of some keys are those of the written among them

module _ (b : Keyboard) (st : ElementState) where
  abbrev event_at : ℕ → Event
  event_at vk = synthetic_event b st vk (scan_code_for b.layout vk)

  one :
      (w : Bool) (vk : ℕ) (vks : List ℕ) → pick w (event_at vk ∷ []) [] ++ map event_at vks ≡ map event_at (pick w (vk ∷ []) [] ++ vks)
  one true vk vks = refl
  one false vk vks = refl

  synthetic-events : (vks : List ℕ) → synthetic_events b st vks ≡ map event_at (written_of b vks)
  unfolding synthetic_events written_of
  synthetic-events [] = refl
  synthetic-events (vk ∷ vks) =
      ap (λ (es : List Event). pick (written b vk) (event_at vk ∷ []) [] ++ es) (synthetic-events vks)
      ∙ one (written b vk) vk (written_of b vks)

  focus-events : focus_events b st ≡ map event_at (written_of b (focus_keys st))
  unfolding focus_events
  focus-events = synthetic-events (focus_keys st)

-- ---- those of the keys that focus_keys notes

module _ (block state : List ℕ) (st : ElementState) where
  -- the event of a key
  abbrev pub event_of : ℕ → Event
  event_of vk = synthetic_event (keyboard_at state block) st vk (scan_code_for (maps_of block) vk)

  -- what focus_keys says of the keys
  abbrev pub Noted : List ℕ → Type 0
  Noted keys = (keys ≡ written_of (keyboard_at state block) (focus_keys st)) × (length keys ≤ 253)

  -- the events of the first i keys
  unfoldable pub events_to : List ℕ → ℕ → List Event
  events_to keys i = map event_of (take i keys)

  pub none_yet : (keys : List ℕ) → events_to keys 0 ≡ []
  unfolding events_to
  none_yet keys = refl

  pub one_more : (keys : List ℕ) (i : ℕ) → i < length keys → events_to keys (i + 1) ≡ events_to keys i ++ (event_of (get_or keys i 0) ∷ [])
  unfolding events_to
  one_more keys i h = rw (add-one i, take-suc keys i 0 h) (map-append event_of (take i keys) (get_or keys i 0 ∷ []))

  pub count_to : (keys : List ℕ) (i : ℕ) → i ≤ length keys → length (events_to keys i) ≡ i
  unfolding events_to
  count_to keys i h = length-map (take i keys) event_of ∙ length-take-le i keys h

  module _ (keys : List ℕ) (k : Noted keys) where
    pub all_events : events_to keys (length keys) ≡ focus_events (keyboard_at state block) st
    unfolding events_to
    all_events =
        ap (λ (l : List ℕ). map event_of l) (take_all (length keys) keys (omega arith) ∙ k.0) ∙ sym (focus-events (keyboard_at state block) st)

    pub count : length keys ≡ length (focus_events (keyboard_at state block) st)
    count = sym (count_to keys (length keys) (omega arith)) ∙ ap length all_events

    -- a key left is an event left
    pub one_left :
        (i m most : ℕ) → i < length keys → m + length (focus_events (keyboard_at state block) st) ≤ most → m + length (events_to keys i) < most
    one_left i m most h l = omega (arith, count, count_to keys i (omega arith))
