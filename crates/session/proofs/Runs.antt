-- Runs on areas are runs on paper: each call finds the area of a session, so none gets 4, and hands out what the paper says.
-- Assumes nothing.
use Rattle.std.specs.Prelude.{Option, Some, None}
use mathlib.Core.Path.{◌≡◌, refl, ap, sym, ◌∙◌, subst}
use mathlib.Core.Bool.{Bool, true, false}
use mathlib.Core.List.{List, [], ◌∷◌, ◌++◌, append_assoc, append-nil}
use Prim.Native.Nat.{ℕ, ◌+◌, ◌<◌}
use native.Mathlib.Omega.{arith}
use borrow.Author.Tests.{le-leb}
use Rattle.area.specs.Pick.{pick}
use Rattle.area.specs.Bytes.{Bytes}
use Rattle.session.specs.Limits.{OPEN_MOST, ENTRIES_MOST, TOKENS_MOST}
use Rattle.session.specs.Given.{Given, brought, finished, inputs_of}
use Rattle.session.specs.Builder.{keyboard_of}
use Rattle.session.specs.Session.{Session, fresh_session, open_count, units_within, in_order, entries_fit, held_fits, is_session}
use Rattle.session.specs.Area.{encode, encode_answer}
use Rattle.session.specs.Calls.{Effect, effect_of}
use Rattle.session.specs.Questions.{question1, question2, question3, question11, first_no, message_questions, finish_questions, session_questions}
use Rattle.session.specs.Answers.{Outcome, refused, answered, questions, outcome_by, outcome_of}
use Rattle.session.specs.Book.{Press, empty_book, book_step}
use Rattle.session.specs.Run.{Call, State, start, joined, next, run, CallsInRange}
use Rattle.session.specs.Demand3.{NoFour}
use Rattle.session.proofs.Lists.{All}
use Rattle.session.proofs.Queue.{Stack, base, handed_of, flat, Wf, flat_rises, handed_wf, rising_true, first_true}
use Rattle.session.proofs.Fits.{KeyboardOk, keyboard_ok}
use Rattle.session.proofs.Area.{session_back, answer_back, fresh-area}
use Rattle.session.proofs.Steps.{Paper, done, view, Good, call_good}
use Rattle.session.proofs.Kept.{Keeps, call_leaves}

-- ---- what a run comes through

pub record Fine (q : Paper) : Type 0 where
  pub inv : Good q
  pub keeps : Keeps q.session

pub view_session : (S : Stack) (h c : ℕ) (p : Option Press) → Wf c h S → Keeps (view S h c p).session → is_session (view S h c p).session ≡ true
unfolding is_session in_order
view_session S h c p w k =
    rw (rising_true 0 (handed_of S h) (flat S) (flat_rises S c (handed_of S h) (handed_wf S h c w)), first_true S h, le-leb _ OPEN_MOST k.few, le-leb _ ENTRIES_MOST k.fit, le-leb _ TOKENS_MOST k.tokens, k.short, k.stored, k.press_in) refl

pub fine_session : (q : Paper) → Fine q → is_session q.session ≡ true
fine_session q f =
    let g = f.inv in
    rw g.same (view_session g.stack g.h g.c g.p g.wf (subst (λ (x : Paper). Keeps x.session) g.same f.keeps))

pub start_fine : Fine (record { session = fresh_session; tokens = []; book = empty_book; out = [] })
unfolding fresh_session empty_book open_count units_within entries_fit held_fits
start_fine =
    record {
      inv = record { stack = base []; h = 0; c = 0; p = None; wf = tt; same = refl };
      keeps = record { few = omega arith; fit = omega arith; tokens = omega arith; short = refl; stored = refl; press_in = refl };
    }

-- ---- the paper's area

abbrev pub area_of : Paper → List Outcome → State
area_of q os = record { area = encode q.session; tokens = q.tokens; book = q.book; out = q.out; outcomes = os }

pub start_area : start ≡ area_of (record { session = fresh_session; tokens = []; book = empty_book; out = [] }) []
unfolding start
start_area = rw fresh-area refl

-- ---- the questions

first_step : (n lo : ℕ) (b : Bool) (m : ℕ) (o : Option ℕ) → (o ≡ Some n → lo < n) → lo < m → pick b o (Some m) ≡ Some n → lo < n
first_step n lo true m o f a e = f e
first_step n lo false m o f a e = let h : m ≡ n = cc in subst (λ (x : ℕ). lo < x) h a

first_above : (n lo : ℕ) (qs : List (ℕ × Bool)) → All (λ (q : ℕ × Bool). lo < q.0) qs → first_no qs ≡ Some n → lo < n
unfolding first_no
first_above n lo [] a e = absurd (let z : ◌≡◌ {A = ℕ} 0 1 = cc in omega arith)
first_above n lo (q ∷ qs) a e = first_step n lo q.1 q.0 (first_no qs) (λ e. first_above n lo qs a.1 e) a.0 e

session_above : (s : Session) (g : Given) → All (λ (q : ℕ × Bool). 4 < q.0) (session_questions s g)
unfolding session_questions message_questions finish_questions
session_above s (brought i m) = (omega arith, (omega arith, (omega arith, (omega arith, (omega arith, tt)))))
session_above s (finished i t p) = (omega arith, tt)

-- the questions that are put to every call, 4 being passed
abbrev pub early : Bool → Bool → Bool → Bool → List (ℕ × Bool) → List (ℕ × Bool)
early a b c d qs = (1, a) ∷ (2, b) ∷ (3, c) ∷ (11, d) ∷ (4, true) ∷ qs

not_four : (a b c d : Bool) (n : ℕ) (qs : List (ℕ × Bool)) → All (λ (q : ℕ × Bool). 4 < q.0) qs → first_no (early a b c d qs) ≡ Some n → n ≡ 4 → ⊥
unfolding first_no
not_four false b c d n qs k e = λ f. let h : 1 ≡ n = cc in omega arith
not_four true false c d n qs k e = λ f. let h : 2 ≡ n = cc in omega arith
not_four true true false d n qs k e = λ f. let h : 3 ≡ n = cc in omega arith
not_four true true true false n qs k e = λ f. let h : 11 ≡ n = cc in omega arith
not_four true true true true n qs k e = λ f. omega (arith, first_above n 4 qs k e)

pub passed : (a b c d : Bool) (qs : List (ℕ × Bool)) → first_no (early a b c d qs) ≡ None → (c ≡ true) × (first_no qs ≡ None)
unfolding first_no
passed false b c d qs e = (cc, cc)
passed true false c d qs e = (cc, cc)
passed true true false d qs e = (cc, cc)
passed true true true false qs e = (cc, cc)
passed true true true true qs e = (refl, e)

pub inputs-ok : (g : Given) → Bytes (inputs_of g).block → question3 g ≡ true → KeyboardOk (keyboard_of (inputs_of g))
unfolding question3
inputs-ok g bytes e = keyboard_ok (inputs_of g) bytes e

-- ---- one call

pub record Next (q : Paper) (os : List Outcome) (c : Call) : Type 0 where
  pub paper : Paper
  pub outcome : Outcome
  pub fine : Fine paper
  pub same : next (area_of q os) c ≡ area_of paper (os ++ (outcome ∷ []))
  pub no_four : NoFour (outcome ∷ [])

-- what is asked of a paper's area
abbrev pub asked : Paper → Call → List (ℕ × Bool)
asked q c =
    early (question1 (encode q.session) c.answers) (question2 c.given) (question3 c.given) (question11 c.given) (session_questions q.session c.given)

pub next_by : (q : Paper) (os : List Outcome) (c : Call) → Fine q → next (area_of q os) c ≡ joined (area_of q os) c.given (outcome_by (first_no (asked q c)) q.session c.given)
unfolding next outcome_of questions
next_by q os c f =
    let b = session_back q.session (fine_session q f) in
    rw (b.1, b.2) refl

-- an answered call, whatever its questions were
pub answered-next :
    (q : Paper) (os : List Outcome) (g : Given) → Fine q → KeyboardOk (keyboard_of (inputs_of g)) → first_no (session_questions q.session g) ≡ None →
    let e : Effect = effect_of q.session g in
    (joined (area_of q os) g (outcome_by None q.session g) ≡ area_of (done q g e) (os ++ (answered e.token (encode e.after) (encode_answer e.events) ∷ []))) × Fine (done q g e)
unfolding joined outcome_by done
answered-next q os g f i e =
    let l = call_leaves q.session g i f.keeps e in
    let a = answer_back (effect_of q.session g).events l.most l.fits in
    (rw a.1 refl, record { inv = called; keeps = l.after })
  where
    called : Good (done q g (effect_of q.session g))
    called =
        let v = f.inv in
        subst (λ (x : Paper). Good (done x g (effect_of x.session g))) (sym v.same)
        (call_good v.stack v.h v.c v.p g v.wf (subst (λ (x : Paper). first_no (session_questions x.session g) ≡ None) v.same e))

-- SCOPE 7.6: a refused call changes nothing, but for the list of outcomes
refused-next : (q : Paper) (os : List Outcome) (g : Given) (n : ℕ) → joined (area_of q os) g (outcome_by (Some n) q.session g) ≡ area_of q (os ++ (refused n ∷ []))
unfolding joined outcome_by book_step
refused-next q os g n = refl

pub next_fine : (q : Paper) (os : List Outcome) (c : Call) → Fine q → Bytes (inputs_of c.given).block → Next q os c
next_fine q os c f r = go (first_no (asked q c)) refl
  where
    go : (o : Option ℕ) → first_no (asked q c) ≡ o → Next q os c
    go (Some n) e =
        record {
          paper = q;
          outcome = refused n;
          fine = f;
          same = next_by q os c f ∙ ap (λ (o : Option ℕ). joined (area_of q os) c.given (outcome_by o q.session c.given)) e ∙ refused-next q os c.given n;
          no_four = (not_four (question1 (encode q.session) c.answers) (question2 c.given) (question3 c.given) (question11 c.given) n (session_questions q.session c.given) (session_above q.session c.given) e, tt);
        }
    go None e =
        let p = passed (question1 (encode q.session) c.answers) (question2 c.given) (question3 c.given) (question11 c.given) (session_questions q.session c.given) e in
        let a = answered-next q os c.given f (inputs-ok c.given r p.0) p.1 in
        record {
          paper = done q c.given (effect_of q.session c.given);
          outcome = answered _ _ _;
          fine = a.1;
          same = next_by q os c f ∙ ap (λ (o : Option ℕ). joined (area_of q os) c.given (outcome_by o q.session c.given)) e ∙ a.0;
          no_four = tt;
        }

-- ---- a list of calls

pub record Ran (q : Paper) (os : List Outcome) (cs : List Call) : Type 0 where
  pub paper : Paper
  pub outcomes : List Outcome
  pub fine : Fine paper
  pub same : run (area_of q os) cs ≡ area_of paper (os ++ outcomes)
  pub no_four : NoFour outcomes

pub four_append : (a b : List Outcome) → NoFour a → NoFour b → NoFour (a ++ b)
four_append [] b x y = y
four_append (refused n ∷ a) b x y = (x.0, four_append a b x.1 y)
four_append (answered t u v ∷ a) b x y = four_append a b x y

pub run_fine : (cs : List Call) (q : Paper) (os : List Outcome) → Fine q → CallsInRange cs → Ran q os cs
unfolding run
run_fine [] q os f r = record { paper = q; outcomes = []; fine = f; same = rw append-nil refl; no_four = tt }
run_fine (c ∷ cs) q os f r =
    let n = next_fine q os c f r.0 in
    let m = run_fine cs n.paper (os ++ (n.outcome ∷ [])) n.fine r.1 in
    record {
      paper = m.paper;
      outcomes = n.outcome ∷ m.outcomes;
      fine = m.fine;
      same = ap (λ (st : State). run st cs) n.same ∙ m.same ∙ ap (λ (l : List Outcome). area_of m.paper l) (append_assoc os (n.outcome ∷ []) m.outcomes);
      no_four = four_append (n.outcome ∷ []) m.outcomes n.no_four m.no_four;
    }
