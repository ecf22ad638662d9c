-- What a refusal leaves, and what demand 3 has closings for.
-- Assumes nothing.
use Rattle.std.specs.Prelude.{◌≡◌, Bool, true, ◌||◌, ℕ, List, [], ◌∷◌, ◌++◌, eqb, length, Option}
use Rattle.session.specs.Given.{Inputs, finished}
use Rattle.session.specs.declared.Message.{Message}
use Rattle.session.specs.Answers.{Outcome, refused, outcome_of}
use Rattle.session.specs.Run.{Call, State, Closing, start, next, run, CallsInRange}
use Rattle.session.specs.Demand3.{WellFormed, Answered}

-- Demand 3 has one closing for each token that the answers gave. These are as many as the messages that the book has open, at every point of
-- a run (SCOPE 7.5: open is meant as the book has it).
abbrev pub TokensOpen : Type 0
TokensOpen =
    (cs : List Call) → CallsInRange cs →
    let st : State = run start cs in length st.tokens ≡ length st.book.opened

-- A refused call takes no part: but for its outcome, the state is what it was. So a refused open's message is not processed, and a refused
-- finish leaves its message open.
abbrev pub TookNoPart : Type 0
TookNoPart =
    (st : State) (c : Call) (n : ℕ) → outcome_of st.area c.answers c.given ≡ refused n →
    next st c ≡ record { area = st.area; tokens = st.tokens; book = st.book; out = st.out; outcomes = st.outcomes ++ (refused n ∷ []) }

-- the numbers of the questions that are put to inputs alone (SCOPE 7.4)
unfoldable pub of_inputs : ℕ → Bool
of_inputs n = eqb n 1 || (eqb n 2 || (eqb n 3 || eqb n 11))

-- The finish of the latest open message is refused for its inputs alone, with 1, 2, 3 or 11.
abbrev pub RefusedForInputs : Type 0
RefusedForInputs =
    (cs : List Call) (t : ℕ) (ts : List ℕ) → CallsInRange cs →
    let st : State = run start cs in
    st.tokens ≡ t ∷ ts →
    (i : Inputs) (p : Option Message) (y : List ℕ) (n : ℕ) → outcome_of st.area y (finished i t p) ≡ refused n → of_inputs n ≡ true

-- Brought again with inputs in order it is answered, on the same area.
abbrev pub AnsweredAgain : Type 0
AnsweredAgain =
    (cs : List Call) (t : ℕ) (ts : List ℕ) → CallsInRange cs →
    let st : State = run start cs in
    st.tokens ≡ t ∷ ts →
    (i : Inputs) (p : Option Message) (y : List ℕ) (n : ℕ) → outcome_of st.area y (finished i t p) ≡ refused n →
    (k : Closing) → WellFormed k →
    let left : State = next st (record { given = finished i t p; answers = y }) in
    Answered (outcome_of left.area k.answers (finished k.inputs t k.peeked) ∷ [])
