-- A host reads exactly the events that a call handed out.
-- Assumes nothing.
use Rattle.std.specs.Prelude.{Some, None}
use mathlib.Core.Path.{◌≡◌, refl, sym, ap, ◌∙◌}
use mathlib.Core.Bool.{Bool, true, false}
use mathlib.Core.List.{List, [], ◌∷◌, ◌++◌, append_assoc}
use Prim.Native.Nat.{ℕ, zero, suc, ◌+◌, ◌-◌, ◌*◌, ◌≤◌, ◌<◌}
use native.Mathlib.Omega.{arith}
use lib.Dec.{ltb}
use lib.ListN.{length, drop, replicate}
use lib.Seq.{drop_at, drop-drop}
use borrow.Author.Tests.{eq-eqb, le-leb, ltb-true, ltb-false}
use Rattle.area.specs.Bytes.{le, num}
use Rattle.area.specs.Splice.{padded}
use Rattle.area.proofs.Bytes.{length-le, num-le}
use Rattle.session.specs.Limits.{AREA, ENTRIES_MOST, ANSWER_EVENT_SIZE}
use Rattle.session.specs.Event.{Event}
use Rattle.session.specs.Session.{Session, event_fits, all_fit}
use Rattle.session.specs.Codec.{put_many, slot, list_of}
use Rattle.session.specs.Area.{event, answer, encode_answer}
use Rattle.session.specs.Given.{Given, inputs_of}
use Rattle.session.specs.Builder.{keyboard_of}
use Rattle.session.specs.Calls.{effect_of}
use Rattle.session.specs.Questions.{first_no, session_questions}
use Rattle.session.proofs.Codec.{All, list_as}
use Rattle.session.proofs.Area.{event-sound, event-width, events-each, answer_back}
use Rattle.session.proofs.Fits.{KeyboardOk}
use Rattle.session.proofs.Kept.{Keeps, call_leaves}
use Rattle.export.specs.Events.{place, is_answer, is_event, event_at, nth}

abbrev Fit : Event → Type 0
Fit e = event_fits e ≡ true

-- event i of events one behind the other, whatever stands behind them
each :
    (es : List Event) (r : List ℕ) (i : ℕ) → All Fit es → i < length es →
    (event.ok (drop (ANSWER_EVENT_SIZE * i) (put_many event es ++ r)) ≡ true) × (Some (event.get (drop (ANSWER_EVENT_SIZE * i) (put_many event es ++ r))) ≡ nth es i)
unfolding put_many nth
each [] r i f h = let z : ⊥ = omega arith in absurd z
each (e ∷ es) r zero f h =
    let b = event-sound.back e (put_many event es ++ r) f.0 in
    rw (append_assoc, b.0, b.1) (refl, refl)
each (e ∷ es) r (suc i) f h =
    let t = put_many event es ++ r in
    let l = event.put e ++ t in
    let n : ANSWER_EVENT_SIZE * suc i ≡ ANSWER_EVENT_SIZE + ANSWER_EVENT_SIZE * i = omega arith in
    let d : drop (ANSWER_EVENT_SIZE * suc i) l ≡ drop (ANSWER_EVENT_SIZE * i) t =
    ap (λ (k : ℕ). drop k l) n
    ∙ sym (drop-drop (ANSWER_EVENT_SIZE * i) ANSWER_EVENT_SIZE l)
    ∙ ap (λ (u : List ℕ). drop (ANSWER_EVENT_SIZE * i) u) (drop_at (event.put e) t ANSWER_EVENT_SIZE (event-sound.sized e f.0 ∙ event-width)) in
    rw (append_assoc, d) (each es r i f.1 (omega arith))

past : (es : List Event) (i : ℕ) → length es ≤ i → nth es i ≡ None
unfolding nth
past [] i h = refl
past (e ∷ es) zero h = let z : ⊥ = omega arith in absurd z
past (e ∷ es) (suc i) h = past es i (omega arith)

module _ (es : List Event) (h : length es ≤ ENTRIES_MOST) (f : all_fit es ≡ true) where
  -- what stands behind the events
  abbrev Rest : List ℕ
  Rest = replicate {A = ℕ} ((ENTRIES_MOST - length es) * event.width) 0 ++ replicate (AREA - length ((list_of 2 ENTRIES_MOST event).put es)) 0

  area_as : encode_answer es ≡ le 2 (length es) ++ (put_many event es ++ Rest)
  unfolding encode_answer answer slot padded
  area_as = list_as 2 ENTRIES_MOST (omega arith) event-sound es _ h (events-each es f)

  pub counted : num 2 0 (encode_answer es) ≡ length es
  counted = rw area_as (num-le 2 (length es) (put_many event es ++ Rest) (omega arith))

  placed : (i : ℕ) → drop (place i) (encode_answer es) ≡ drop (ANSWER_EVENT_SIZE * i) (put_many event es ++ Rest)
  placed i =
      ap (λ (x : List ℕ). drop (place i) x) area_as
      ∙ sym (drop-drop (ANSWER_EVENT_SIZE * i) 2 (le 2 (length es) ++ (put_many event es ++ Rest)))
      ∙ ap (λ (u : List ℕ). drop (ANSWER_EVENT_SIZE * i) u) (drop_at (le 2 (length es)) (put_many event es ++ Rest) 2 (length-le 2 (length es)))

  pub events_back : (i : ℕ) → event_at (encode_answer es) i ≡ nth es i
  unfolding event_at is_event is_answer
  events_back i = go (ltb i (length es)) refl
    where
      go : (b : Bool) → ltb i (length es) ≡ b → event_at (encode_answer es) i ≡ nth es i
      go true p =
          let e = each es Rest i (events-each es f) (ltb-true i (length es) p) in
          rw (eq-eqb (length (encode_answer es)) AREA (answer_back es h f).0, counted, le-leb (length es) ENTRIES_MOST h, p, placed i, e.0) e.1
      go false p =
          rw (eq-eqb (length (encode_answer es)) AREA (answer_back es h f).0, counted, le-leb (length es) ENTRIES_MOST h, p) (sym (past es i (ltb-false i (length es) p)))

-- so of every call that passed its questions, on a session that keeps the limits
pub handed-out_back :
    (s : Session) (g : Given) → KeyboardOk (keyboard_of (inputs_of g)) → Keeps s → first_no (session_questions s g) ≡ None → (i : ℕ) →
    event_at (encode_answer (effect_of s g).events) i ≡ nth (effect_of s g).events i
handed-out_back s g o k e i = let l = call_leaves s g o k e in events_back (effect_of s g).events l.most l.fits i
