-- What a refusal leaves: specs/Refusals.antt has the statements.
-- Assumes nothing.
use Rattle.std.specs.Prelude.{Option, Some, None}
use mathlib.Core.Path.{◌≡◌, refl, ap, sym, ◌∙◌, subst}
use mathlib.Core.Bool.{Bool, true, false}
use mathlib.Core.List.{List, [], ◌∷◌, ◌++◌}
use Prim.Native.Nat.{ℕ, suc}
use native.Mathlib.Omega.{arith}
use lib.ListN.{length}
use Rattle.session.specs.Given.{Inputs, Given, finished}
use Rattle.session.specs.declared.Message.{Message}
use Rattle.session.specs.Session.{Session}
use Rattle.session.specs.Area.{encode}
use Rattle.session.specs.Questions.{first_no, session_questions}
use Rattle.session.specs.Answers.{Outcome, refused, answered, questions, outcome_by, outcome_of}
use Rattle.session.specs.Book.{Arrival, Press, book_step}
use Rattle.session.specs.Run.{Call, State, Closing, joined, next}
use Rattle.session.specs.Demand3.{WellFormed, Answered}
use Rattle.session.specs.Refusals.{TokensOpen, TookNoPart, of_inputs, RefusedForInputs, AnsweredAgain}
use Rattle.session.proofs.Area.{session_back}
use Rattle.session.proofs.Queue.{Done, Stack, base, push, opened_of, tokens_of, Wf}
use Rattle.session.proofs.Steps.{Paper, view}
use Rattle.session.proofs.Kept.{Keeps}
use Rattle.session.proofs.Runs.{view_session, early, asked}
use Rattle.session.proofs.Demand3.{latest_passes, closing_passes}
use Rattle.session.proofs.Corollaries.{Reached, reached}

-- ---- as many tokens as open messages

as_many : (S : Stack) → length (tokens_of S) ≡ length (opened_of S)
as_many (base D) = refl
as_many (push S t a D) = ap suc (as_many S)

pub tokens_open : TokensOpen
tokens_open cs r =
    let x = reached cs r in
    subst (λ (st : State). length st.tokens ≡ length st.book.opened) (sym x.same) (as_many x.stack)

-- ---- no part in the session

pub took_no_part : TookNoPart
unfolding next joined book_step
took_no_part st c n e = rw e refl

-- ---- the finish of the latest open message

-- its questions on the area of a session
outcome-by :
    (S : Stack) (h c : ℕ) (p : Option Press) (y : List ℕ) (g : Given) → Wf c h S → Keeps (view S h c p).session →
    outcome_of (encode (view S h c p).session) y g ≡ outcome_by (first_no (asked (view S h c p) (record { given = g; answers = y }))) (view S h c p).session g
unfolding outcome_of questions
outcome-by S h c p y g w k =
    let b = session_back (view S h c p).session (view_session S h c p w k) in
    rw (b.1, b.2) refl

abbrev head : List ℕ → ℕ
head [] = 0
head (t ∷ ts) = t

none_open : (t : ℕ) (ts : List ℕ) → [] ≡ t ∷ ts → ⊥
none_open t ts e = let z : 0 ≡ suc (length ts) = ap length e in omega arith

-- where 4 and all behind it are passed, the first no is among those that are put to inputs
of-inputs : (a b c d : Bool) (n : ℕ) (qs : List (ℕ × Bool)) → first_no qs ≡ None → first_no (early a b c d qs) ≡ Some n → of_inputs n ≡ true
unfolding first_no of_inputs
of-inputs false b c d n qs k e = let h : 1 ≡ n = cc in rw (sym h) refl
of-inputs true false c d n qs k e = let h : 2 ≡ n = cc in rw (sym h) refl
of-inputs true true false d n qs k e = let h : 3 ≡ n = cc in rw (sym h) refl
of-inputs true true true false n qs k e = let h : 11 ≡ n = cc in rw (sym h) refl
of-inputs true true true true n qs k e = absurd (let z : ◌≡◌ {A = ℕ} 0 1 = cc in omega arith)

number_of : (o : Option ℕ) (s : Session) (g : Given) (n : ℕ) → outcome_by o s g ≡ refused n → o ≡ Some n
unfolding outcome_by
number_of None s g n e = absurd (let z : ◌≡◌ {A = ℕ} 0 1 = cc in omega arith)
number_of (Some m) s g n e = let h : m ≡ n = cc in ap (λ (x : ℕ). Some x) h

for_inputs :
    (S : Stack) (h c : ℕ) (q : Option Press) (t : ℕ) (ts : List ℕ) (i : Inputs) (p : Option Message) (y : List ℕ) (n : ℕ) → Wf c h S → Keeps (view S h c q).session →
    tokens_of S ≡ t ∷ ts → outcome_of (encode (view S h c q).session) y (finished i t p) ≡ refused n → of_inputs n ≡ true
for_inputs (base D) h c q t ts i p y n w k e f = absurd (none_open t ts e)
for_inputs (push S u a D) h c q t ts i p y n w k e f =
    let same : u ≡ t = ap head e in
    let passes = subst (λ (x : ℕ). first_no (session_questions (view (push S u a D) h c q).session (finished i x p)) ≡ None) same (latest_passes S u h c a D q i p) in
    of-inputs _ _ _ _ n _ passes (number_of _ _ _ n (sym (outcome-by (push S u a D) h c q y (finished i t p) w k) ∙ f))

given_none : (s : Session) (g : Given) → Answered (outcome_by None s g ∷ [])
unfolding outcome_by
given_none s g = tt

again :
    (S : Stack) (h c : ℕ) (q : Option Press) (t : ℕ) (ts : List ℕ) (k : Closing) → Wf c h S → Keeps (view S h c q).session → tokens_of S ≡ t ∷ ts → WellFormed k →
    Answered (outcome_of (encode (view S h c q).session) k.answers (finished k.inputs t k.peeked) ∷ [])
again (base D) h c q t ts k w s e f = absurd (none_open t ts e)
again (push S u a D) h c q t ts k w s e f =
    subst (λ (x : ℕ). Answered (outcome_of (encode (view (push S u a D) h c q).session) k.answers (finished k.inputs x k.peeked) ∷ [])) (ap head e)
    (subst (λ (o : Outcome). Answered (o ∷ []))
    (sym (outcome-by (push S u a D) h c q k.answers (finished k.inputs u k.peeked) w s ∙ ap (λ (o : Option ℕ). outcome_by o (view (push S u a D) h c q).session (finished k.inputs u k.peeked)) (closing_passes S u h c a D q k w s f)))
    (given_none (view (push S u a D) h c q).session (finished k.inputs u k.peeked)))

pub refused_for_inputs : RefusedForInputs
refused_for_inputs cs t ts r e i p y n f =
    let x = reached cs r in
    for_inputs x.stack x.h x.c x.p t ts i p y n x.wf x.keeps (sym (ap (λ (st : State). st.tokens) x.same) ∙ e)
    (ap (λ (st : State). outcome_of st.area y (finished i t p)) (sym x.same) ∙ f)

pub answered_again : AnsweredAgain
answered_again cs t ts r e i p y n f k w =
    let x = reached cs r in
    let kept = took_no_part _ (record { given = finished i t p; answers = y }) n f in
    subst (λ (l : List ℕ). Answered (outcome_of l k.answers (finished k.inputs t k.peeked) ∷ []))
    (sym (ap (λ (st : State). st.area) kept ∙ ap (λ (st : State). st.area) x.same))
    (again x.stack x.h x.c x.p t ts k x.wf x.keeps (sym (ap (λ (st : State). st.tokens) x.same) ∙ e) w)
