-- Demand 3 (SCOPE 1.3): specs/Demand3.antt has the statement.
-- Assumes nothing.
use Rattle.std.specs.Prelude.{Option, Some, None}
use mathlib.Core.Path.{◌≡◌, refl, ap, sym, ◌∙◌, subst}
use mathlib.Core.Bool.{true}
use mathlib.Core.List.{List, [], ◌∷◌, ◌++◌, append_assoc, append-nil, map}
use Prim.Native.Nat.{ℕ, ◌+◌}
use native.Mathlib.Omega.{arith}
use lib.ListN.{length}
use borrow.Author.Tests.{eq-eqb}
use Rattle.session.specs.Limits.{AREA, KEYS}
use Rattle.session.specs.Given.{Inputs, Given, finished}
use Rattle.session.specs.declared.Message.{Message}
use Rattle.session.specs.Event.{Event}
use Rattle.session.specs.Builder.{keyboard_of, break_table_of}
use Rattle.session.specs.Session.{Session, fresh_session}
use Rattle.session.specs.Area.{encode, decode, session_ok, encode_answer}
use Rattle.session.specs.Calls.{Effect, seen, finish_event, effect_of}
use Rattle.session.specs.Questions.{question1, question2, question3, question11, question10, first_no, message_questions, finish_questions, session_questions}
use Rattle.session.specs.Answers.{Outcome, refused, answered, outcome_by, fresh_area}
use Rattle.session.specs.Book.{Arrival, Press, Note, held_in}
use Rattle.session.specs.Run.{Call, State, Closing, start, joined, next, run, closings, ClosingsInRange}
use Rattle.session.specs.Demand3.{WellFormed, AllWellFormed, Answered, NoFour, Rising, Closed, Demand3}
use Rattle.session.proofs.Queue.{Done, Stack, base, push, wait_of, note_of, event_of, flat, dones, tokens_of, app, Wf, last-at, kept, tokens_app, finish_wf}
use Rattle.session.proofs.Area.{session_back, fresh-area}
use Rattle.session.proofs.Fits.{keyboard_ok}
use Rattle.session.proofs.Steps.{Paper, done, view, held_next, finish_good}
use Rattle.session.proofs.Kept.{Keeps}
use Rattle.session.proofs.Runs.{Fine, start_fine, view_session, area_of, start_area, asked, next_by, answered-next, Ran, four_append, run_fine}
use Rattle.session.proofs.Rising.{run-noted, start-noted}

-- ---- one closing

-- the latest message's token passes question 10
pub latest_passes :
    (S : Stack) (t h c : ℕ) (a : Arrival) (D : List Done) (p : Option Press) (i : Inputs) (pk : Option Message) →
    first_no (session_questions (view (push S t a D) h c p).session (finished i t pk)) ≡ None
unfolding first_no session_questions question10 message_questions finish_questions
latest_passes S t h c a D p i pk = rw (last-at (flat S) D t (wait_of a), eq-eqb t t refl) refl

-- the finish of the latest message, with well-formed inputs, passes every question
pub closing_passes :
    (S : Stack) (t h c : ℕ) (a : Arrival) (D : List Done) (p : Option Press) (k : Closing) →
    Wf c h (push S t a D) → Keeps (view (push S t a D) h c p).session → WellFormed k →
    first_no (asked (view (push S t a D) h c p) (record { given = finished k.inputs t k.peeked; answers = k.answers })) ≡ None
unfolding first_no question1 question2 question3 question11
closing_passes S t h c a D p k w s f =
    let b = session_back (view (push S t a D) h c p).session (view_session (push S t a D) h c p w s) in
    rw (eq-eqb (length (encode (view (push S t a D) h c p).session)) AREA b.0, eq-eqb (length k.answers) AREA f.answers, eq-eqb (length k.inputs.key_state) KEYS f.key_state, f.block, f.table)
    (latest_passes S t h c a D p k.inputs k.peeked)

-- what is left to be closed, and how it ends
record Ended (S : Stack) (h c : ℕ) (p : Option Press) (os : List Outcome) (cl : List Call) : Type 0 where
  handed_out : List Done
  held : Option Press
  outcomes : List Outcome
  same : run (area_of (view S h c p) os) cl ≡ area_of (view (base handed_out) h c held) (os ++ outcomes)
  answered_all : Answered outcomes
  wf : Wf c h (base handed_out)
  keeps : Keeps (view (base handed_out) h c held).session

ended :
    (ks : List Closing) (S : Stack) (h c : ℕ) (p : Option Press) (os : List Outcome) → Wf c h S → Keeps (view S h c p).session → ClosingsInRange ks → AllWellFormed ks →
    length ks ≡ length (tokens_of S) → Ended S h c p os (closings (tokens_of S) ks)
unfolding closings run
ended [] (base D) h c p os w k r f l =
    record { handed_out = D; held = p; outcomes = []; same = rw append-nil refl; answered_all = tt; wf = w; keeps = k }
ended (q ∷ ks) (base D) h c p os w k r f l = absurd (omega arith)
ended [] (push S t a D) h c p os w k r f l = absurd (omega arith)
ended (q ∷ ks) (push S t a D) h c p os w k r f l =
    let g : Given = finished q.inputs t q.peeked in
    let call : Call = record { given = g; answers = q.answers } in
    let v : Paper = view (push S t a D) h c p in
    let fine : Fine v = record { inv = record { stack = push S t a D; h = h; c = c; p = p; wf = w; same = refl }; keeps = k } in
    let passes = closing_passes S t h c a D p q w k f.0 in
    let L : List Done = kept t a.number (finish_event (keyboard_of q.inputs) (break_table_of q.inputs) (held_in p) (wait_of a) (seen q.peeked)) D in
    let v' : Paper = view (app S L) h c (held_next p a q.inputs (seen q.peeked)) in
    let e : Effect = effect_of v.session g in
    let o : Outcome = answered e.token (encode e.after) (encode_answer e.events) in
    let n = answered-next v os g fine (keyboard_ok q.inputs r.0 f.0.block) (latest_passes S t h c a D p q.inputs q.peeked) in
    let d : done v g e ≡ v' = finish_good S t h c a D p q.inputs q.peeked w in
    let one : next (area_of v os) call ≡ area_of v' (os ++ (o ∷ []))
    = next_by v os call fine ∙ ap (λ (x : Option ℕ). joined (area_of v os) g (outcome_by x v.session g)) passes ∙ n.0 ∙ ap (λ (x : Paper). area_of x (os ++ (o ∷ []))) d in
    let rest = ended ks (app S L) h c (held_next p a q.inputs (seen q.peeked)) (os ++ (o ∷ [])) (finish_wf S t h c a D (finish_event (keyboard_of q.inputs) (break_table_of q.inputs) (held_in p) (wait_of a) (seen q.peeked)) w)
    (subst (λ (x : Paper). Keeps x.session) d n.1.keeps) r.1 f.1 (rw (tokens_app S L) (omega arith)) in
    record {
      handed_out = rest.handed_out;
      held = rest.held;
      outcomes = o ∷ rest.outcomes;
      same = ap (λ (x : State). run x (closings (tokens_of S) ks)) one ∙ ap (λ (ts : List ℕ). run (area_of v' (os ++ (o ∷ []))) (closings ts ks)) (sym (tokens_app S L)) ∙ rest.same ∙ ap (λ (x : List Outcome). area_of (view (base rest.handed_out) h c rest.held) x) (append_assoc os (o ∷ []) rest.outcomes);
      answered_all = rest.answered_all;
      wf = rest.wf;
      keeps = rest.keeps;
    }

-- ---- the whole

answered_four : (os : List Outcome) → Answered os → NoFour os
answered_four [] a = tt
answered_four (refused n ∷ os) a = absurd a
answered_four (answered t x y ∷ os) a = answered_four os a

noted-events : (D : List Done) → map event_of D ≡ map (λ (x : Note). x.event) (map note_of D)
noted-events [] = refl
noted-events (d ∷ D) = ap (λ (r : List Event). d.event ∷ r) (noted-events D)

-- nothing open, and a press held or none
held_fresh : (p : Option Press) → p ≡ None → encode (record { handed = 0; entries = []; held = held_in p }) ≡ fresh_area
unfolding fresh_session
held_fresh None e = fresh-area
held_fresh (Some q) e = absurd (let z : ◌≡◌ {A = ℕ} 0 1 = cc in omega arith)

-- a run that ends so, read off its last state
end_closed :
    (closed end : State) (D : List Done) (h c : ℕ) (p : Option Press) (os : List Outcome) → Wf c h (base D) → Keeps (view (base D) h c p).session →
    Answered closed.outcomes → end ≡ area_of (view (base D) h c p) os → NoFour os → Rising 0 end.book.noted → Closed closed end
end_closed closed end D h c p os w k a e n r =
    let b = session_back (view (base D) h c p).session (view_session (base D) h c p w k) in
    record {
      none_refused = a;
      no_four = subst (λ (x : State). NoFour x.outcomes) (sym e) n;
      handed_out = subst (λ (x : State). x.out ≡ map (λ (y : Note). y.event) x.book.noted) (sym e) (noted-events D);
      by_number = r;
      nothing_open = subst (λ (x : State). x.book.opened ≡ []) (sym e) refl;
      sized = subst (λ (x : State). length x.area ≡ AREA) (sym e) b.0;
      a_session = subst (λ (x : State). session_ok x.area ≡ true) (sym e) b.1;
      no_entry = subst (λ (x : State). (decode x.area).entries ≡ []) (sym e) (ap (λ (x : Session). x.entries) b.2);
      no-token = subst (λ (x : State). (decode x.area).handed ≡ 0) (sym e) (ap (λ (x : Session). x.handed) b.2);
      as_fresh = subst (λ (x : State). x.book.held ≡ None → x.area ≡ fresh_area) (sym e) (held_fresh p);
    }

-- the same closings end the same way, whatever came out before
closes :
    (S : Stack) (h c : ℕ) (p : Option Press) (os : List Outcome) (ks : List Closing) → Wf c h S → Keeps (view S h c p).session → NoFour os → Rising 0 (map note_of (dones S)) → ClosingsInRange ks → AllWellFormed ks → length ks ≡ length (tokens_of S) →
    Closed (run (area_of (view S h c p) []) (closings (tokens_of S) ks)) (run (area_of (view S h c p) os) (closings (tokens_of S) ks))
closes S h c p os ks w k n r q f l =
    let a = ended ks S h c p [] w k q f l in
    let b = ended ks S h c p os w k q f l in
    end_closed (run (area_of (view S h c p) []) (closings (tokens_of S) ks)) (run (area_of (view S h c p) os) (closings (tokens_of S) ks)) b.handed_out h c b.held (os ++ b.outcomes) b.wf b.keeps
    (subst (λ (x : State). Answered x.outcomes) (sym a.same) a.answered_all)
    b.same
    (four_append os b.outcomes n (answered_four b.outcomes b.answered_all))
    (run-noted (closings (tokens_of S) ks) (area_of (view S h c p) os) r)

-- a state after some calls of which the closings make an end
abbrev Closes : List Closing → State → Type 0
Closes ks st =
    let cl : List Call = closings st.tokens ks in
    ClosingsInRange ks → AllWellFormed ks → length ks ≡ length st.tokens →
    Closed (run (record { area = st.area; tokens = st.tokens; book = st.book; out = st.out; outcomes = [] }) cl) (run st cl)

pub demand3 : Demand3
demand3 cs ks r =
    let ran : Ran _ [] cs = run_fine cs _ [] start_fine r in
    let g = ran.fine.inv in
    let e : run start cs ≡ area_of (view g.stack g.h g.c g.p) ran.outcomes
    = ap (λ (x : State). run x cs) start_area ∙ ran.same ∙ ap (λ (x : Paper). area_of x ran.outcomes) g.same in
    subst (Closes ks) (sym e)
    (closes g.stack g.h g.c g.p ran.outcomes ks g.wf (subst (λ (x : Paper). Keeps x.session) g.same ran.fine.keeps) ran.no_four
    (subst (λ (x : State). Rising 0 x.book.noted) e (run-noted cs start start-noted)))
