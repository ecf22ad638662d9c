-- What each message that is answered whole gives, from what the functions below left.
-- Assumes nothing.
use Rattle.std.specs.Prelude.{Option, Some, None}
use mathlib.Core.Path.{◌≡◌, refl, sym, ◌∙◌}
use mathlib.Core.List.{List, [], ◌∷◌, ◌++◌}
use Prim.Native.Nat.{ℕ, ◌+◌, ◌<◌}
use native.Mathlib.Omega.{arith}
use lib.ListN.{get_or, length}
use Rattle.session.specs.Limits.{ENTRIES_MOST, TOKENS_MOST}
use Rattle.session.specs.Event.{Event, Held}
use Rattle.session.specs.Session.{Entry, Session}
use Rattle.session.specs.Area.{encode, decode, encode_answer}
use Rattle.session.specs.Builder.{dead_char_event}
use Rattle.session.specs.Calls.{numbered, behind, dead_char_answered}
use Rattle.session.specs.Focus.{focus_events}
use Rattle.session.specs.Answers.{open_said}
use Rattle.session.specs.declared.ElementState.{ElementState}
use Rattle.queue.specs.Changed.{holding, with_event}
use Rattle.queue.specs.Room.{IsArea, HasRoom}
use Rattle.queue.proofs.Areas.{AreaOf, own_area, room_of}
use Rattle.queue.proofs.HeldPress.{forgotten}
use Rattle.event.specs.Written.{keyboard_at}
use Rattle.message.specs.Gives.{Gives, followed}

-- ---- events behind the last entry, straight out of an empty queue

out :
    (s : Session) (es : List Event) (h : Option Held) (l : List Entry) → length l ≡ 0 → {x y : List ℕ} →
    x ≡ encode (record { handed = s.handed; held = h; entries = l }) → y ≡ encode_answer es → Gives (behind s es h l) None x y
unfolding behind open_said
out s es h [] n p q = record { said = refl; session = p; answers = q }
out s es h (e ∷ l) n p q = absurd (omega arith)

waits :
    (s : Session) (es : List Event) (h : Option Held) (l : List Entry) → (length l ≡ 0 → ⊥) → {x y : List ℕ} →
    x ≡ encode (record { handed = s.handed + length es; held = h; entries = l ++ numbered s.handed es }) → y ≡ encode_answer [] →
    Gives (behind s es h l) None x y
unfolding behind open_said
waits s es h [] n p q = absurd (n refl)
waits s es h (e ∷ l) n p q = record { said = refl; session = p; answers = q }

-- ---- a session's area x with n entries

module _ (x : List ℕ) (b : (i : ℕ) → get_or x i 0 < 256) (r : IsArea x) (n : ℕ) (c : n ≡ length (decode x).entries) where
  -- a focus change by the layout a and the key state s to the state t, which are those of the call
  module _ (block state : List ℕ) (st : ElementState) {a s : List ℕ} {t : ElementState} where
    pub focus-out :
        n ≡ 0 → {z : List ℕ} → z ≡ encode_answer (focus_events (keyboard_at s a) t) → (a ≡ block) × (s ≡ state) × (t ≡ st) →
        Gives (behind (decode x) (focus_events (keyboard_at state block) st) (decode x).held (decode x).entries) None x z
    focus-out i q e = rw (← e.0, ← e.1, ← e.2) (out (decode x) _ (decode x).held (decode x).entries (sym c ∙ i) (own_area x b r).exact q)

    pub focus_waits :
        (n ≡ 0 → ⊥) → {z w : List ℕ} → z ≡ encode (followed (decode x) (focus_events (keyboard_at s a) t)) → w ≡ encode_answer [] →
        (a ≡ block) × (s ≡ state) × (t ≡ st) →
        Gives (behind (decode x) (focus_events (keyboard_at state block) st) (decode x).held (decode x).entries) None z w
    unfolding followed
    focus_waits l q w e = rw (← e.0, ← e.1, ← e.2) (waits (decode x) _ (decode x).held (decode x).entries (λ i. l (c ∙ i)) q w)

  -- an entry stands before its events
  pub some_entry : (n ≡ 0 → ⊥) → 0 < length (decode x).entries
  some_entry f = let l : length (decode x).entries ≡ 0 → ⊥ = λ i. f (c ∙ i) in omega arith

  -- a dead character completes the held press h as the event v, and y holds none
  module _ (h : Held) (e : (decode x).held ≡ Some h) (v : Event) (u : v ≡ dead_char_event h) {y : List ℕ} (p : y ≡ encode (holding (decode x) None)) where
    without : AreaOf (holding (decode x) None) y
    without = forgotten (decode x) (own_area x b r) p

    pub dead_room : length (decode x).entries < ENTRIES_MOST → (decode x).handed < TOKENS_MOST → HasRoom y
    dead_room l t = room_of _ without l t

    dead-behind : dead_char_answered (decode x) (decode x).held ≡ behind (decode x) (v ∷ []) None (decode x).entries
    unfolding dead_char_answered
    dead-behind = rw (e, u) refl

    pub dead-out : n ≡ 0 → {z : List ℕ} → z ≡ encode_answer (v ∷ []) → Gives (dead_char_answered (decode x) (decode x).held) None y z
    dead-out i q = rw dead-behind (out (decode x) (v ∷ []) None (decode x).entries (sym c ∙ i) without.exact q)

    one_more :
        {z : List ℕ} → z ≡ encode (with_event (decode y) v) →
        z ≡ encode (record { handed = (decode x).handed + 1; held = None; entries = (decode x).entries ++ numbered (decode x).handed (v ∷ []) })
    unfolding numbered
    one_more q = q ∙ rw without.back refl

    pub dead_waits :
        (n ≡ 0 → ⊥) → {z w : List ℕ} → z ≡ encode (with_event (decode y) v) → w ≡ encode_answer [] →
        Gives (dead_char_answered (decode x) (decode x).held) None z w
    dead_waits l q w = rw dead-behind (waits (decode x) (v ∷ []) None (decode x).entries (λ i. l (c ∙ i)) (one_more q) w)
