-- A session with the events of a focus change behind its last entry, one by one.
-- Assumes nothing.
use mathlib.Core.Path.{◌≡◌, refl, sym, ap, ◌∙◌}
use mathlib.Core.Bool.{true}
use mathlib.Core.List.{List, [], ◌∷◌, ◌++◌, append_assoc, append-nil}
use Prim.Native.Nat.{ℕ, suc, ◌+◌, ◌≤◌, ◌<◌}
use native.Mathlib.Omega.{arith}
use lib.ListN.{get_or, length, length-append}
use Rattle.area.proofs.Bytes.{each-byte}
use Rattle.lookup.specs.Block.{maps_of}
use Rattle.lookup.specs.Maps.{MapsOk}
use Rattle.session.specs.Limits.{AREA, ENTRIES_MOST, TOKENS_MOST}
use Rattle.session.specs.Event.{Event}
use Rattle.session.specs.Session.{Entry, complete, Session, event_fits, is_session}
use Rattle.session.specs.Area.{encode, decode}
use Rattle.session.specs.Calls.{numbered}
use Rattle.session.specs.Focus.{focus_events}
use Rattle.session.specs.Questions.{behind_some}
use Rattle.session.specs.declared.ElementState.{ElementState}
use Rattle.session.proofs.Area.{session_back, session_exact}
use Rattle.session.proofs.Kept.{length-numbered}
use Rattle.event.specs.Written.{keyboard_at}
use Rattle.queue.specs.Changed.{with_event}
use Rattle.queue.specs.Room.{IsArea, HasRoom}
use Rattle.queue.proofs.Sessions.{complete-session}
use Rattle.event.proofs.focus.Events.{event_of, Noted, events_to, none_yet, one_more, all_events, one_left}
use Rattle.message.specs.Gives.{FitBehind, followed}
use Rattle.message.proofs.opening.FocusAnswers.{event-fits}

-- one event more, under the next token
numbered-behind : (t : ℕ) (es : List Event) (e : Event) → numbered t (es ++ (e ∷ [])) ≡ numbered t es ++ (complete (t + length es) e ∷ [])
unfolding numbered
numbered-behind t [] e = let z : t ≡ t + 0 = omega arith in rw (← z) refl
numbered-behind t (d ∷ es) e =
    let z : suc t + length es ≡ t + suc (length es) = omega arith in
    ap (λ (l : List Entry). complete t d ∷ l) (rw (← z) (numbered-behind (suc t) es e))

followed_none : (s : Session) → followed s [] ≡ s
unfolding followed numbered
followed_none s = let z : s.handed + 0 ≡ s.handed = omega arith in rw (z, append-nil s.entries) refl

module _ (s : Session) (es : List Event) where
  followed-handed : (followed s es).handed ≡ s.handed + length es
  unfolding followed
  followed-handed = refl

  followed-length : length (followed s es).entries ≡ length s.entries + length es
  unfolding followed
  followed-length = length-append s.entries (numbered s.handed es) ∙ omega (arith, length-numbered s.handed es)

  followed-next :
      (e : Event) →
      with_event (followed s es) e ≡ followed s (es ++ (e ∷ []))
  unfolding followed
  followed-next e =
      let z : s.handed + length es + 1 ≡ s.handed + length (es ++ (e ∷ [])) = omega (arith, length-append es (e ∷ [])) in
      rw (z, numbered-behind s.handed es e, append_assoc) refl

-- y is the area of the session of x with events es behind its last entry
pub record Queued (x : List ℕ) (es : List Event) (y : List ℕ) : Type 0 where
  pub area : y ≡ encode (followed (decode x) es)
  pub session : is_session (followed (decode x) es) ≡ true

queued_none : (x : List ℕ) → ((i : ℕ) → get_or x i 0 < 256) → IsArea x → Queued x [] x
queued_none x b a =
    let e = session_exact x (each-byte x b) a.size a.passed in
    let n = followed_none (decode x) in
    record { area = sym (ap encode n ∙ e.1); session = ap is_session n ∙ e.0 }

module _
    (x : List ℕ) (es : List Event) {y : List ℕ} (q : Queued x es y) (l : length (decode x).entries + length es < ENTRIES_MOST)
    (t : (decode x).handed + length es < TOKENS_MOST)
  where
    queued_room : HasRoom y
    queued_room =
        let b = session_back (followed (decode x) es) q.session in
        rw q.area
        (record {
          area = record { size = b.0; passed = b.1 };
          entry = rw b.2 (omega (arith, followed-length (decode x) es));
          token = rw b.2 (omega (arith, followed-handed (decode x) es));
        })

    queued_next :
        (e : Event) {z : List ℕ} → 0 < length (decode x).entries → event_fits e ≡ true →
        z ≡ encode (with_event (decode y) e) →
        Queued x (es ++ (e ∷ [])) z
    queued_next e n f p =
        let s = followed (decode x) es in
        let b : decode y ≡ s = ap decode q.area ∙ (session_back s q.session).2 in
        let g = followed-next (decode x) es e in
        let k = followed-length (decode x) es in
        record {
          area = p ∙ ap (λ (d : Session). encode (with_event d e)) b ∙ ap encode g;
          session = sym (ap is_session g) ∙ complete-session s e q.session (omega arith) f (omega arith) (omega (arith, followed-handed (decode x) es));
        }

-- ---- the keys of a focus change, one by one

-- behind a last entry each event needs an entry
behind-last : (l : List Entry) (n k : ℕ) {most : ℕ} → 0 < length l → k + behind_some l n ≤ most → k + n ≤ most
behind-last [] n k h m = absurd (omega arith)
behind-last (e ∷ l) n k h m = m

module _ (block state : List ℕ) (st : ElementState) (x : List ℕ) where
  -- the events of the first i keys stand behind
  abbrev pub QueuedTo : List ℕ → ℕ → List ℕ → Type 0
  QueuedTo keys i y = Queued x (events_to block state st keys i) y

  pub none_queued : ((i : ℕ) → get_or x i 0 < 256) → IsArea x → (keys : List ℕ) → QueuedTo keys 0 x
  none_queued b a keys = rw (none_yet block state st keys) (queued_none x b a)

  -- there is room for all of them, and one key is left
  module _
      (some_entry : 0 < length (decode x).entries) (fit : FitBehind (decode x) (focus_events (keyboard_at state block) st)) (keys : List ℕ)
      (k : Noted block state st keys) (i : ℕ) (h : i < length keys) {y : List ℕ} (q : QueuedTo keys i y)
    where
      entry-left : length (decode x).entries + length (events_to block state st keys i) < ENTRIES_MOST
      entry-left = one_left block state st keys k i (length (decode x).entries) ENTRIES_MOST h (behind-last (decode x).entries _ _ some_entry fit.entries)

      token-left : (decode x).handed + length (events_to block state st keys i) < TOKENS_MOST
      token-left = one_left block state st keys k i (decode x).handed TOKENS_MOST h (behind-last (decode x).entries _ _ some_entry fit.tokens)

      pub next_room : HasRoom y
      next_room = queued_room x (events_to block state st keys i) q entry-left token-left

      pub next_queued :
          MapsOk (maps_of block) → (e : Event) {z : List ℕ} → e ≡ event_of block state st (get_or keys i 0) →
          z ≡ encode (with_event (decode y) e) →
          QueuedTo keys (i + 1) z
      next_queued ok e {z} g p =
          let f : event_fits e ≡ true = rw g (event-fits block state st ok (get_or keys i 0)) in
          let w : Queued x (events_to block state st keys i ++ (e ∷ [])) z = queued_next x (events_to block state st keys i) q entry-left token-left e some_entry f p in
          rw (one_more block state st keys i (omega arith), ← g) w

  pub all_queued :
      (keys : List ℕ) → Noted block state st keys → {y : List ℕ} → QueuedTo keys (length keys) y →
      y ≡ encode (followed (decode x) (focus_events (keyboard_at state block) st))
  all_queued keys k q = q.area ∙ ap (λ (es : List Event). encode (followed (decode x) es)) (all_events block state st keys k)
