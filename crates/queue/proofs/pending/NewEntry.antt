-- An entry written behind the last one of a session's area, and counted.
-- Assumes nothing.
use mathlib.Core.Path.{◌≡◌, refl, sym, ap, ◌∙◌}
use mathlib.Core.Bool.{true}
use mathlib.Core.List.{List, [], ◌∷◌, ◌++◌}
use Prim.Native.Nat.{ℕ, suc, ◌+◌, ◌*◌, ◌<◌}
use native.Mathlib.Omega.{arith}
use lib.ListN.{get_or, length}
use borrow.Author.Tests.{lt-ltb}
use Rattle.area.specs.Bytes.{le}
use Rattle.area.specs.Splice.{splice}
use Rattle.lookup.specs.declared.keyboard.KeyLParam.{KeyLParam}
use Rattle.session.specs.Limits.{ENTRIES_MOST, TOKENS_MOST, COUNT_AT, ENTRIES_AT, ENTRY_SIZE}
use Rattle.session.specs.Event.{Event, Info}
use Rattle.session.specs.Session.{Wait, press, release, character, Entry, waiting, complete, Session, token_of, wait_fits, entry_fits, event_fits, info_fits}
use Rattle.session.specs.Area.{event, entry, encode, decode}
use Rattle.session.specs.Calls.{opening}
use Rattle.session.proofs.Writes.{Stored, handed-put, entry-put, put_stored}
use Rattle.record.proofs.write.Entries.{completed_headed}
use Rattle.queue.specs.Changed.{with_event}
use Rattle.queue.specs.Room.{HasRoom}
use Rattle.queue.specs.Stands.{event_place}
use Rattle.queue.proofs.Areas.{kept}

pub counted :
    (n h : ℕ) (x : List ℕ) {y z : List ℕ} {m k : ℕ} → y ≡ splice COUNT_AT (le 2 m) x → z ≡ splice 0 (le 2 k) y → m ≡ n + 1 → k ≡ h + 1 →
    z ≡ splice 0 (le 2 (h + 1)) (splice COUNT_AT (le 2 (n + 1)) x)
counted n h x p q u v = rw (q, p, u, v) refl

-- an entry, the count, the tokens handed out
put_all :
    (s : Session) → Stored s → (e : Entry) → token_of e < 65536 → entry_fits e ≡ true → length s.entries < ENTRIES_MOST →
    splice 0 (le 2 (s.handed + 1)) (splice COUNT_AT (le 2 (length s.entries + 1)) (splice (ENTRIES_AT + ENTRY_SIZE * length s.entries) (entry.put e) (encode s)))
    ≡ encode (record { handed = s.handed + 1; held = s.held; entries = s.entries ++ (e ∷ []) })
put_all s f e t g h =
    ap (λ (l : List ℕ). splice 0 (le 2 (s.handed + 1)) l) (entry-put s f e (t, g) h)
    ∙ handed-put (record { handed = s.handed; held = s.held; entries = s.entries ++ (e ∷ []) }) (put_stored s f e (t, g) h) (s.handed + 1)

added :
    (x : List ℕ) → ((i : ℕ) → get_or x i 0 < 256) → HasRoom x → (e : Entry) → token_of e ≡ (decode x).handed → entry_fits e ≡ true →
    {k n h : ℕ} {y z : List ℕ} → y ≡ splice k (entry.put e) x → z ≡ splice 0 (le 2 (h + 1)) (splice COUNT_AT (le 2 (n + 1)) y) →
    k ≡ ENTRIES_AT + ENTRY_SIZE * n → n ≡ length (decode x).entries → h ≡ (decode x).handed →
    z ≡ encode (record { handed = (decode x).handed + 1; held = (decode x).held; entries = (decode x).entries ++ (e ∷ []) })
added x b r e t g {k} {n} {h} {y} {z} p q u v w =
    let s = decode x in
    let o = kept x b r.area in
    let i : s.handed < TOKENS_MOST = r.token in
    q
    ∙ ap (λ (l : List ℕ). splice 0 (le 2 (h + 1)) (splice COUNT_AT (le 2 (n + 1)) l)) p
    ∙ ap (λ (l : List ℕ). splice 0 (le 2 (h + 1)) (splice COUNT_AT (le 2 (n + 1)) (splice k (entry.put e) l))) (sym o.1)
    ∙ rw (u, v, w) (put_all s o.0 e (omega (arith, t)) g r.entry)

-- an open message
module _ (x : List ℕ) (b : (i : ℕ) → get_or x i 0 < 256) (r : HasRoom x) where
  pub opened :
      (w : Wait) → wait_fits w ≡ true → {t a k n h : ℕ} {y z : List ℕ} →
      y ≡ splice k (entry.put (waiting t w)) x → z ≡ splice 0 (le 2 (h + 1)) (splice COUNT_AT (le 2 (n + 1)) y) →
      n ≡ length (decode x).entries → h ≡ (decode x).handed → k ≡ ENTRIES_AT + ENTRY_SIZE * n → t ≡ h → a ≡ h →
      (a ≡ (decode x).handed) × (z ≡ encode (opening (decode x) w (decode x).held).after)
  unfolding opening entry_fits
  opened w g {t} p q v i u j m =
      let s : (decode x).handed + 1 ≡ suc (decode x).handed = omega arith in
      (m ∙ i, added x b r (waiting t w) (j ∙ i) g p q u v i ∙ rw (j, i, s) refl)

  -- a completed one, whose event stands behind its token and its mark already
  pub completed :
      (e : Event) → event_fits e ≡ true → {t k n h : ℕ} {u y z : List ℕ} → u ≡ splice (event_place n) (event.put e) x →
      y ≡ splice k (le 2 t ++ (1 ∷ [])) u → z ≡ splice 0 (le 2 (h + 1)) (splice COUNT_AT (le 2 (n + 1)) y) →
      n ≡ length (decode x).entries → h ≡ (decode x).handed → k ≡ ENTRIES_AT + ENTRY_SIZE * n → t ≡ h →
      z ≡ encode (with_event (decode x) e)
  unfolding entry_fits
  completed e g {t} {k} {n} p o q v i u j =
      let y' = completed_headed (ENTRIES_AT + ENTRY_SIZE * n) t e x p (o ∙ rw u refl) in
      added x b r (complete t e) (j ∙ i) g y' q refl v i ∙ rw (j, i) refl

pub press_fits : (vkey : ℕ) (l : KeyLParam) → vkey < 65536 → l.scancode < 256 → wait_fits (press vkey l) ≡ true
unfolding wait_fits
press_fits vkey l h k = rw (lt-ltb vkey 65536 h, lt-ltb l.scancode 256 k) refl

pub release_fits : (n : Info) → info_fits n ≡ true → wait_fits (release n) ≡ true
unfolding wait_fits
release_fits n h = h

pub character_fits : wait_fits character ≡ true
unfolding wait_fits
character_fits = refl
