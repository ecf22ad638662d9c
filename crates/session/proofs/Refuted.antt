-- Wrong definitions of a finish that demand 3 excludes, each by a short run that is not `Closed`: a queue kept clean by completing no message,
-- an event handed out late, twice, or before the one that arrived first. Whatever a finish is defined as, demand 3 makes that of a lone press
-- hand out its event, once (`finish_forced`), and that of a nested press hand out nothing before the outer one's (`inner_forced`).
-- Assumes nothing.
use Rattle.std.specs.Prelude.{Option, Some, None}
use mathlib.Core.Path.{◌≡◌, refl, ap, sym, ◌∙◌, subst}
use mathlib.Core.Bool.{true, false}
use mathlib.Core.List.{List, [], ◌∷◌, ◌++◌, map}
use Prim.Native.Nat.{ℕ}
use native.Mathlib.Omega.{arith}
use lib.ListN.{length}
use borrow.Author.Tests.{eq-eqb}
use Rattle.area.specs.Bytes.{Bytes}
use Rattle.area.specs.Look.{assoc}
use Rattle.lookup.specs.LParam.{key_lparam, virtual_key}
use Rattle.lookup.proofs.keyboard_layout.Ranges.{vkey_small, scan_small, repeat_of}
use Rattle.session.specs.Limits.{AREA, KEYS}
use Rattle.session.specs.Given.{Inputs, Given, brought, finished, WM_KEYDOWN}
use Rattle.session.specs.declared.Message.{Message}
use Rattle.session.specs.Event.{Event}
use Rattle.session.specs.Builder.{keyboard_of, break_table_of, from_message, held_of, finalize, fake, press_event}
use Rattle.session.specs.Session.{Wait, Session, fresh_session, open_count, event_fits, all_fit}
use Rattle.session.specs.Area.{encode, decode, encode_answer, decode_answer}
use Rattle.session.specs.Calls.{Effect, sort_of, nothing_done, opening, message_effect, seen, holds, finish_event, finish_held, find_wait, in_place, resolve, is_first, drain, resolved, finish_effect, effect_of}
use Rattle.session.specs.Questions.{opens, new_entries, units_after, question1, question2, question3, question11, question5, question6, question7, question8, question9, first_no, message_questions, session_questions}
use Rattle.session.specs.Answers.{Outcome, refused, answered, questions, outcome_by, outcome_of}
use Rattle.session.specs.Book.{Arrival, Note, Book, empty_book, press_of, note_in, note_unless, book_open, book_message, unless_quit, makes_held, finish_press, book_finish, book_step}
use Rattle.session.specs.Run.{Call, State, Closing, start, retoken, joined, next, run, closings}
use Rattle.session.specs.Demand3.{WellFormed, Closed}
use Rattle.session.proofs.Queue.{base, push, wait_of, Wf, open_wf}
use Rattle.session.proofs.Area.{session_back, answer_back}
use Rattle.session.proofs.Lists.{both}
use Rattle.session.proofs.Fits.{keyboard_ok, held_fits_lem, press_fits}
use Rattle.session.proofs.Steps.{Paper, done, view}
use Rattle.session.proofs.Runs.{Fine, fine_session, start_fine, area_of, start_area, asked, next_by, answered-next}
use Rattle.session.proofs.Demand3.{closing_passes}

-- ---- a run with another definition of what an answered call does

module _ (E : Session → Given → Effect) where
  abbrev pub outcome_with : Option ℕ → Session → Given → Outcome
  outcome_with (Some n) s g = refused n
  outcome_with None s g = answered (E s g).token (encode (E s g).after) (encode_answer (E s g).events)

  abbrev pub next_with : State → Call → State
  next_with st c =
      joined st c.given (outcome_with (first_no (questions st.area c.answers c.given)) (decode st.area) c.given)

  abbrev pub run_with : State → List Call → State
  run_with st [] = st
  run_with st (c ∷ cs) = run_with (next_with st c) cs

-- with the calls' own it is the run of demand 3
outcome_own : (o : Option ℕ) (s : Session) (g : Given) → outcome_with effect_of o s g ≡ outcome_by o s g
unfolding outcome_by
outcome_own None s g = refl
outcome_own (Some n) s g = refl

pub run_own : (cs : List Call) (st : State) → run_with effect_of st cs ≡ run st cs
unfolding run next outcome_of
run_own [] st = refl
run_own (c ∷ cs) st =
    ap (λ (o : Outcome). run_with effect_of (joined st c.given o) cs) (outcome_own (first_no (questions st.area c.answers c.given)) (decode st.area) c.given)
    ∙ run_own cs (next st c)

-- a run's next state on a paper's area
next-with :
    (E : Session → Given → Effect) (q : Paper) (os : List Outcome) (c : Call) → Fine q →
    next_with E (area_of q os) c ≡ joined (area_of q os) c.given (outcome_with E (first_no (asked q c)) q.session c.given)
unfolding questions
next-with E q os c f =
    let b = session_back q.session (fine_session q f) in
    rw (b.1, b.2) refl

-- ---- a press, and its closing with nothing peeked

abbrev fresh : Paper
fresh = record { session = fresh_session; tokens = []; book = empty_book; out = [] }

module _ (i : Inputs) (y : List ℕ) (wparam lparam : ℕ) where
  abbrev pub key_press : Message
  key_press = record { kind = WM_KEYDOWN; wparam = wparam; lparam = lparam }

  abbrev pub opened : Call
  opened = record { given = brought i key_press; answers = y }

  abbrev pub closing : Closing
  closing = record { inputs = i; peeked = None; answers = y }

  abbrev arrived : Arrival
  arrived = record { number = 0; inputs = i; message = key_press }

  -- the state between the two, and its session
  abbrev between : Paper
  between = view (push (base []) 0 arrived []) 1 1 None

  abbrev pub press_open : Session
  press_open = between.session

  press-answered : first_no (session_questions fresh_session (brought i key_press)) ≡ None
  unfolding first_no session_questions message_questions question5 question6 question7 question8 question9 opens new_entries units_after open_count fresh_session sort_of assoc
  press-answered = refl

  press_passes : WellFormed closing → first_no (asked fresh opened) ≡ None
  unfolding first_no question1 question2 question3 question11
  press_passes f =
      let b = session_back fresh_session (fine_session fresh start_fine) in
      rw (eq-eqb (length (encode fresh_session)) AREA b.0, eq-eqb (length y) AREA f.answers, eq-eqb (length i.key_state) KEYS f.key_state, f.block, f.table) press-answered

  press_done : done fresh (brought i key_press) (effect_of fresh_session (brought i key_press)) ≡ between
  unfolding done retoken effect_of message_effect opening sort_of assoc book_step book_message book_open empty_book fresh_session wait_of
  press_done = refl

  record Reached : Type 0 where
    outcomes : List Outcome
    same : next start opened ≡ area_of between outcomes
    fine : Fine between

  reached : WellFormed closing → Bytes i.block → Reached
  reached f bytes =
      let g : Given = brought i key_press in
      let n = answered-next fresh [] g start_fine (keyboard_ok i bytes f.block) press-answered in
      let e : Effect = effect_of fresh_session g in
      let os : List Outcome = answered e.token (encode e.after) (encode_answer e.events) ∷ [] in
      record {
        outcomes = os;
        same = ap (λ (st : State). next st opened) start_area ∙ next_by fresh [] opened start_fine ∙ ap (λ (o : Option ℕ). joined (area_of fresh []) g (outcome_by o fresh_session g)) (press_passes f) ∙ n.0 ∙ ap (λ (x : Paper). area_of x os) press_done;
        fine = subst Fine press_done n.1;
      }

  press-noted : (book_step false between.book (finished i 0 None)).noted ≡ record { number = 0; event = press_event (press_of i key_press) } ∷ []
  unfolding book_step book_finish unless_quit finish_press makes_held note_unless note_in fake
  press-noted = refl

  -- what the calls' own finish hands out
  press-handed-out : (effect_of press_open (finished i 0 None)).events ≡ press_event (press_of i key_press) ∷ []
  unfolding effect_of finish_effect seen find_wait is_first resolved resolve in_place drain finish_event holds fake wait_of
  press-handed-out = refl

  -- ---- with any definition of a finish

  module _ (E : Session → Given → Effect) (same-opens : (s : Session) (m : Message) → E s (brought i m) ≡ effect_of s (brought i m)) (f : WellFormed closing) (bytes : Bytes i.block) where
    abbrev pub after_press : State
    after_press = run_with E start (opened ∷ [])

    open_same : (o : Option ℕ) (s : Session) → outcome_with E o s (brought i key_press) ≡ outcome_by o s (brought i key_press)
    unfolding outcome_by
    open_same None s = ap (λ (e : Effect). answered e.token (encode e.after) (encode_answer e.events)) (same-opens s key_press)
    open_same (Some n) s = refl

    after-press : (r : Reached) → after_press ≡ area_of between r.outcomes
    unfolding next outcome_of
    after-press r =
        ap (λ (o : Outcome). joined start (brought i key_press) o) (open_same (first_no (questions start.area y (brought i key_press))) (decode start.area)) ∙ r.same

    told :
        (os : List Outcome) (closed : State) → Fine between → Closed closed (next_with E (area_of between os) (record { given = finished i 0 None; answers = y })) →
        decode_answer (encode_answer (E press_open (finished i 0 None)).events) ≡ press_event (press_of i key_press) ∷ []
    unfolding joined
    told os closed fine k =
        let g : Given = finished i 0 None in
        let c : Call = record { given = g; answers = y } in
        let p = closing_passes (base []) 0 1 1 arrived [] None closing (open_wf (base []) 0 0 i key_press tt) fine.keeps f in
        let e : next_with E (area_of between os) c ≡ joined (area_of between os) g (outcome_with E None press_open g)
        = next-with E between os c fine ∙ ap (λ (o : Option ℕ). joined (area_of between os) g (outcome_with E o press_open g)) p in
        subst (λ (st : State). st.out ≡ map (λ (x : Note). x.event) st.book.noted) e k.handed_out ∙ ap (map (λ (x : Note). x.event)) press-noted

    -- demand 3's end of this run leaves the finish no choice
    pub finish_forced :
        (closed : State) → Closed closed (run_with E after_press (closings after_press.tokens (closing ∷ []))) →
        decode_answer (encode_answer (E press_open (finished i 0 None)).events) ≡ press_event (press_of i key_press) ∷ []
    unfolding closings
    finish_forced closed k =
        let r = reached f bytes in
        told r.outcomes closed r.fine (subst (λ (st : State). Closed closed (run_with E st (closings st.tokens (closing ∷ [])))) (after-press r) k)

    pub nothing_refuted :
        (E press_open (finished i 0 None)).events ≡ [] →
        (closed : State) → Closed closed (run_with E after_press (closings after_press.tokens (closing ∷ []))) → ⊥
    unfolding all_fit
    nothing_refuted n closed k =
        let a = answer_back [] (omega arith) refl in
        let e : [] ≡ press_event (press_of i key_press) ∷ [] = sym a.1 ∙ ap (λ (es : List Event). decode_answer (encode_answer es)) (sym n) ∙ finish_forced closed k in
        let z : ◌≡◌ {A = ℕ} 0 1 = ap length e in omega arith

-- ---- wrong definitions, each with a run that is not `Closed`, whatever well-formed inputs and whichever key it has

abbrev pub NotClosed : (Session → Given → Effect) → Type 0
NotClosed E =
    (i : Inputs) (y : List ℕ) (wparam lparam : ℕ) → WellFormed (closing i y wparam lparam) → Bytes i.block →
    let st : State = run_with E start (opened i y wparam lparam ∷ []) in
    (closed : State) → Closed closed (run_with E st (closings st.tokens (closing i y wparam lparam ∷ []))) → ⊥

-- a queue kept clean by completing no message
abbrev pub clean : Session → Given → Effect
clean s (brought i m) = effect_of s (brought i m)
clean s (finished i t p) = record { token = None; events = []; after = (effect_of s (finished i t p)).after }

pub clean_refuted : NotClosed clean
clean_refuted i y wparam lparam f bytes closed k = nothing_refuted i y wparam lparam clean (λ s m. refl) f bytes refl closed k

-- late: the first entry's event waits in the queue as any other's
abbrev pub waiting_on : Session → Inputs → ℕ → Option Message → Option Wait → Effect
waiting_on s i t p None = nothing_done s
waiting_on s i t p (Some w) = resolved false s t (finish_event (keyboard_of i) (break_table_of i) s.held w p) (finish_held (keyboard_of i) s.held w p)

abbrev pub late : Session → Given → Effect
late s (brought i m) = effect_of s (brought i m)
late s (finished i t p) = waiting_on s i t (seen p) (find_wait t s.entries)

late_hands_none : (s : Session) (i : Inputs) (t : ℕ) (p : Option Message) (o : Option Wait) → (waiting_on s i t p o).events ≡ []
unfolding resolved
late_hands_none s i t p None = refl
late_hands_none s i t p (Some w) = refl

pub late_refuted : NotClosed late
late_refuted i y wparam lparam f bytes closed k =
    let s : Session = press_open i y wparam lparam in
    nothing_refuted i y wparam lparam late (λ s m. refl) f bytes (late_hands_none s i 0 (seen None) (find_wait 0 s.entries)) closed k

-- twice
abbrev pub twice : Session → Given → Effect
twice s (brought i m) = effect_of s (brought i m)
twice s (finished i t p) =
    let e : Effect = effect_of s (finished i t p) in record { token = e.token; events = e.events ++ e.events; after = e.after }

pub twice_refuted : NotClosed twice
unfolding all_fit
twice_refuted i y wparam lparam f bytes closed k =
    let v : Event = press_event (press_of i (key_press i y wparam lparam)) in
    let fits : event_fits v ≡ true = press_fits _ (held_fits_lem (keyboard_of i) (virtual_key wparam) (key_lparam lparam) (keyboard_ok i bytes f.block) (vkey_small wparam) (scan_small lparam)) in
    let two : all_fit (v ∷ v ∷ []) ≡ true = both (event_fits v) (all_fit (v ∷ [])) fits (both (event_fits v) true fits refl) in
    let a = answer_back (v ∷ v ∷ []) (omega arith) two in
    let n : (twice (press_open i y wparam lparam) (finished i 0 None)).events ≡ v ∷ v ∷ [] = ap (λ (es : List Event). es ++ es) (press-handed-out i y wparam lparam) in
    let e : v ∷ v ∷ [] ≡ v ∷ [] = sym a.1 ∙ ap (λ (es : List Event). decode_answer (encode_answer es)) (sym n) ∙ finish_forced i y wparam lparam twice (λ s m. refl) f bytes closed k in
    let z : ◌≡◌ {A = ℕ} 2 1 = ap length e in omega arith

-- ---- early: a press inside another, told apart from it by the repeat bit of lParam, both closed with nothing peeked

module _ (i : Inputs) (y : List ℕ) (wparam : ℕ) where
  abbrev outer : Message
  outer = key_press i y wparam 0

  abbrev inner : Message
  inner = key_press i y wparam 0x40000000

  abbrev pub both_opened : List Call
  both_opened = record { given = brought i outer; answers = y } ∷ record { given = brought i inner; answers = y } ∷ []

  abbrev pub both_closings : List Closing
  both_closings = record { inputs = i; peeked = None; answers = y } ∷ record { inputs = i; peeked = None; answers = y } ∷ []

  abbrev outer_open : Paper
  outer_open = between i y wparam 0

  abbrev inner_arrived : Arrival
  inner_arrived = record { number = 1; inputs = i; message = inner }

  abbrev both_open : Paper
  both_open = view (push (push (base []) 0 (arrived i y wparam 0) []) 1 inner_arrived []) 2 2 None

  inner_answered : first_no (session_questions outer_open.session (brought i inner)) ≡ None
  unfolding first_no session_questions message_questions question5 question6 question7 question8 question9 opens new_entries units_after open_count sort_of assoc
  inner_answered = refl

  inner_passes : WellFormed (closing i y wparam 0) → Fine outer_open → first_no (asked outer_open (record { given = brought i inner; answers = y })) ≡ None
  unfolding first_no question1 question2 question3 question11
  inner_passes f fine =
      let b = session_back outer_open.session (fine_session outer_open fine) in
      rw (eq-eqb (length (encode outer_open.session)) AREA b.0, eq-eqb (length y) AREA f.answers, eq-eqb (length i.key_state) KEYS f.key_state, f.block, f.table) inner_answered

  inner_done : done outer_open (brought i inner) (effect_of outer_open.session (brought i inner)) ≡ both_open
  unfolding done retoken effect_of message_effect opening sort_of assoc book_step book_message book_open wait_of
  inner_done = refl

  record BothReached (os : List Outcome) : Type 0 where
    outcomes : List Outcome
    same : next (area_of outer_open os) (record { given = brought i inner; answers = y }) ≡ area_of both_open outcomes
    fine : Fine both_open

  both_reached : (os : List Outcome) → WellFormed (closing i y wparam 0) → Bytes i.block → Fine outer_open → BothReached os
  both_reached os f bytes fine =
      let g : Given = brought i inner in
      let n = answered-next outer_open os g fine (keyboard_ok i bytes f.block) inner_answered in
      let e : Effect = effect_of outer_open.session g in
      let os' : List Outcome = os ++ (answered e.token (encode e.after) (encode_answer e.events) ∷ []) in
      record {
        outcomes = os';
        same = next_by outer_open os (record { given = g; answers = y }) fine ∙ ap (λ (o : Option ℕ). joined (area_of outer_open os) g (outcome_by o outer_open.session g)) (inner_passes f fine) ∙ n.0 ∙ ap (λ (x : Paper). area_of x os') inner_done;
        fine = subst Fine inner_done n.1;
      }

  -- the book when the inner press is finished, and when both are
  inner_noted : Book
  inner_noted = book_step false both_open.book (finished i 1 None)

  still_open : inner_noted.opened ≡ arrived i y wparam 0 ∷ []
  unfolding inner_noted book_step book_finish unless_quit finish_press makes_held
  still_open = refl

  both_noted :
      (book_step false inner_noted (finished i 0 None)).noted
      ≡ record { number = 0; event = press_event (press_of i outer) } ∷ record { number = 1; event = press_event (press_of i inner) } ∷ []
  unfolding inner_noted book_step book_finish unless_quit finish_press makes_held note_unless note_in fake
  both_noted = refl

  refused-same : (b : Book) → book_step true b (finished i 0 None) ≡ b
  unfolding book_step
  refused-same b = refl

  -- the last closing, answered or refused
  last :
      (v : Event) (l : List Event) (st closed : State) (o : Outcome) → st.out ≡ v ∷ l → st.book ≡ inner_noted →
      Closed closed (joined st (finished i 0 None) o) → v ≡ press_event (press_of i outer)
  unfolding joined
  last v l st closed (refused n) e b k =
      let z : arrived i y wparam 0 ∷ [] ≡ [] = sym still_open ∙ ap (λ (x : Book). x.opened) (sym b ∙ sym (refused-same st.book)) ∙ k.nothing_open in
      absurd (let n : ◌≡◌ {A = ℕ} 1 0 = ap length z in omega arith)
  last v l st closed (answered t x a) e b k =
      let z : v ∷ (l ++ decode_answer a) ≡ press_event (press_of i outer) ∷ press_event (press_of i inner) ∷ []
      = ap (λ (es : List Event). es ++ decode_answer a) (sym e) ∙ k.handed_out ∙ ap (λ (x : Book). map (λ (n : Note). n.event) (book_step false x (finished i 0 None)).noted) b ∙ ap (map (λ (n : Note). n.event)) both_noted in
      cc

  -- with any definition of a finish: what the inner one hands out begins with the outer press's event, or it hands out nothing
  module _ (E : Session → Given → Effect) (same-opens : (s : Session) (m : Message) → E s (brought i m) ≡ effect_of s (brought i m)) (f : WellFormed (closing i y wparam 0)) (bytes : Bytes i.block) where
    abbrev pub after_both : State
    after_both = run_with E start both_opened

    inner_same : (o : Option ℕ) (s : Session) → outcome_with E o s (brought i inner) ≡ outcome_by o s (brought i inner)
    unfolding outcome_by
    inner_same None s = ap (λ (e : Effect). answered e.token (encode e.after) (encode_answer e.events)) (same-opens s inner)
    inner_same (Some n) s = refl

    next-same : (st : State) → next_with E st (record { given = brought i inner; answers = y }) ≡ next st (record { given = brought i inner; answers = y })
    unfolding next outcome_of
    next-same st = ap (λ (o : Outcome). joined st (brought i inner) o) (inner_same (first_no (questions st.area y (brought i inner))) (decode st.area))

    abbrev inner_out : List Event
    inner_out = decode_answer (encode_answer (E both_open.session (finished i 1 None)).events)

    inner_told :
        (v : Event) (l : List Event) (os : List Outcome) (closed : State) → Fine both_open → inner_out ≡ v ∷ l →
        Closed closed (run_with E (area_of both_open os) (record { given = finished i 1 None; answers = y } ∷ record { given = finished i 0 None; answers = y } ∷ [])) →
        v ≡ press_event (press_of i outer)
    unfolding joined inner_noted
    inner_told v l os closed fine e k =
        let g : Given = finished i 1 None in
        let c : Call = record { given = g; answers = y } in
        let d : Call = record { given = finished i 0 None; answers = y } in
        let wf : Wf 2 2 (push (push (base []) 0 (arrived i y wparam 0) []) 1 inner_arrived []) = open_wf (push (base []) 0 (arrived i y wparam 0) []) 1 1 i inner (open_wf (base []) 0 0 i outer tt) in
        let p = closing_passes (push (base []) 0 (arrived i y wparam 0) []) 1 2 2 inner_arrived [] None (closing i y wparam 0) wf fine.keeps f in
        let st : State = joined (area_of both_open os) g (outcome_with E None both_open.session g) in
        let one : next_with E (area_of both_open os) c ≡ st
        = next-with E both_open os c fine ∙ ap (λ (o : Option ℕ). joined (area_of both_open os) g (outcome_with E o both_open.session g)) p in
        last v l st closed (outcome_with E (first_no (questions st.area y d.given)) (decode st.area) d.given) e refl
        (subst (λ (x : State). Closed closed (next_with E x d)) one k)

    pub inner_forced :
        (v : Event) (l : List Event) (closed : State) → inner_out ≡ v ∷ l →
        Closed closed (run_with E after_both (closings after_both.tokens both_closings)) → v ≡ press_event (press_of i outer)
    unfolding closings
    inner_forced v l closed e k =
        let r = reached i y wparam 0 f bytes in
        let b = both_reached r.outcomes f bytes r.fine in
        let s : after_both ≡ area_of both_open b.outcomes
        = ap (λ (st : State). next_with E st (record { given = brought i inner; answers = y })) (after-press i y wparam 0 E same-opens f bytes r) ∙ next-same (area_of outer_open r.outcomes) ∙ b.same in
        inner_told v l b.outcomes closed b.fine e (subst (λ (st : State). Closed closed (run_with E st (closings st.tokens both_closings))) s k)

-- a nested event handed out at its own finish, its entry dropped
abbrev pub early_on : Session → Inputs → ℕ → Option Message → Option Wait → Effect
early_on s i t p None = nothing_done s
early_on s i t p (Some w) =
    record {
      token = None;
      events = drain (in_place t (finish_event (keyboard_of i) (break_table_of i) s.held w p) []);
      after = record { handed = s.handed; entries = resolve t None s.entries; held = finish_held (keyboard_of i) s.held w p };
    }

abbrev pub early : Session → Given → Effect
early s (brought i m) = effect_of s (brought i m)
early s (finished i t p) = early_on s i t (seen p) (find_wait t s.entries)

early_hands : (i : Inputs) (y : List ℕ) (wparam : ℕ) → (early (both_open i y wparam).session (finished i 1 None)).events ≡ press_event (press_of i (inner i y wparam)) ∷ []
unfolding seen find_wait in_place drain finish_event holds fake wait_of
early_hands i y wparam = refl

-- the repeat bit tells the two presses' events apart
repeats_differ : (i : Inputs) (y : List ℕ) (wparam : ℕ) → press_event (press_of i (inner i y wparam)) ≡ press_event (press_of i (outer i y wparam)) → ⊥
unfolding press_event finalize held_of from_message
repeats_differ i y wparam e =
    let r : true ≡ false = sym (repeat_of (inner i y wparam).lparam) ∙ ap (λ (x : Event). x.repeat) e ∙ repeat_of (outer i y wparam).lparam in
    let z : ◌≡◌ {A = ℕ} 0 1 = cc in omega arith

pub early_refuted :
    (i : Inputs) (y : List ℕ) (wparam : ℕ) → WellFormed (closing i y wparam 0) → Bytes i.block →
    let st : State = run_with early start (both_opened i y wparam) in
    (closed : State) → Closed closed (run_with early st (closings st.tokens (both_closings i y wparam))) → ⊥
unfolding all_fit
early_refuted i y wparam f bytes closed k =
    let v : Event = press_event (press_of i (inner i y wparam)) in
    let fits : event_fits v ≡ true = press_fits _ (held_fits_lem (keyboard_of i) (virtual_key wparam) (key_lparam 0x40000000) (keyboard_ok i bytes f.block) (vkey_small wparam) (scan_small 0x40000000)) in
    let a = answer_back (v ∷ []) (omega arith) (both (event_fits v) true fits refl) in
    let out : decode_answer (encode_answer (early (both_open i y wparam).session (finished i 1 None)).events) ≡ v ∷ []
    = ap (λ (es : List Event). decode_answer (encode_answer es)) (early_hands i y wparam) ∙ a.1 in
    repeats_differ i y wparam (inner_forced i y wparam early (λ s m. refl) f bytes v [] closed out k)
