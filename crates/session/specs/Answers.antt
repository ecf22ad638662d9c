-- What a public call answers, for every input: the areas as they were, what it is given, and what becomes of all of them.
-- Assumes nothing.
use Rattle.std.specs.Prelude.{ℕ, Bool, List, ◌∷◌, eqb, replicate, ℤ, pos, Result, Ok, Err, ⊤, Option, Some, None}
use Rattle.area.specs.Pick.{pick}
use Rattle.session.specs.Limits.{AREA}
use Rattle.session.specs.Given.{Inputs, Given, brought, finished, WM_SYSKEYDOWN}
use Rattle.session.specs.declared.Message.{Message}
use Rattle.session.specs.Session.{Session}
use Rattle.session.specs.Area.{encode, decode, session_ok, encode_answer}
use Rattle.session.specs.Calls.{Sort, key_down, key_up, char, dead_char, ignored, focus, sort_of, effect_of}
use Rattle.session.specs.Questions.{question1, question2, question3, question11, session_questions, first_no, is_held}
use Rattle.session.specs.declared.ProcResult.{ProcResult}
use Rattle.session.specs.declared.ProcResult.TheVariants.{DefWindowProc, Value}
use Rattle.session.specs.declared.Refusal.{Refusal}
use Rattle.session.specs.declared.Refusal.TheVariants as no
use Rattle.session.specs.declared.PendingMessageToken.{PendingMessageToken}

-- the area of a fresh session
unfoldable pub fresh_area : List ℕ
fresh_area = replicate {A = ℕ} AREA 0

-- ---- a call, by numbers

-- SCOPE 6.0: refused with a number, or the token of the message that was opened and both areas after
pub data Outcome : Type 0 where
  refused : ℕ → Outcome
  answered : Option ℕ → List ℕ → List ℕ → Outcome

-- SCOPE 6.0: 1 to 3, 11 and 4 are put to every call, 5 to 9 to calls that bring a message, 10 to finishes
unfoldable pub questions : List ℕ → List ℕ → Given → List (ℕ × Bool)
questions x y g =
    (1, question1 x y) ∷ (2, question2 g) ∷ (3, question3 g) ∷ (11, question11 g) ∷ (4, session_ok x) ∷ session_questions (decode x) g

-- SCOPE 6.0: an answered call writes its events, zeros behind them
unfoldable pub outcome_by : Option ℕ → Session → Given → Outcome
outcome_by (Some n) s g = refused n
outcome_by None s g =
    answered (effect_of s g).token (encode (effect_of s g).after) (encode_answer (effect_of s g).events)

unfoldable pub outcome_of : List ℕ → List ℕ → Given → Outcome
outcome_of x y g = outcome_by (first_no (questions x y g)) (decode x) g

-- ---- the public calls

-- SCOPE 6.1 to 6.11: the number of a refusal
unfoldable pub refusal_number : Refusal → ℕ
refusal_number no.AreaSize = 1
refusal_number no.KeyStateSize = 2
refusal_number no.Block = 3
refusal_number no.Table = 11
refusal_number no.Session = 4
refusal_number no.NothingHeld = 5
refusal_number no.TooManyOpen = 6
refusal_number no.QueueFull = 7
refusal_number no.TokensUsed = 8
refusal_number no.TooManyUnits = 9
refusal_number no.NotLatest = 10

-- SCOPE 6.0: what an answer says: a refusal's number, or the token that was opened, or none
pub data Said : Type 0 where
  refusal : ℕ → Said
  token : ℕ → Said
  no_token : Said

unfoldable pub open_said : Result (Option PendingMessageToken) Refusal → Said
open_said (Err r) = refusal (refusal_number r)
open_said (Ok (Some t)) = token t.0
open_said (Ok None) = no_token

unfoldable pub finish_said : Result ⊤ Refusal → Said
finish_said (Err r) = refusal (refusal_number r)
finish_said (Ok done) = no_token

-- value 0, an LRESULT of 64 bits with a sign
abbrev pub zero_result : ℤ
zero_result = pos 0

-- SCOPE 3.3: what opens sets it, to the default procedure's for 104, else to value 0; focus and unhandled kinds leave it, 103 and 107 set
-- value 0. SCOPE 3.2, 3.9: what is ignored leaves it.
unfoldable pub result_by : Sort → Session → Message → ProcResult → ProcResult
result_by key_down s m r = pick (eqb m.kind WM_SYSKEYDOWN) DefWindowProc (Value zero_result)
result_by key_up s m r = Value zero_result
result_by char s m r = pick (is_held s.held) (Value zero_result) r
result_by dead_char s m r = Value zero_result
result_by (focus st) s m r = r
result_by ignored s m r = r

-- all that a call leaves
pub record Left : Type 0 where
  pub said : Said
  pub result : ProcResult
  pub session : List ℕ
  pub answers : List ℕ

abbrev pub said_token : Option ℕ → Said
said_token None = no_token
said_token (Some t) = token t

-- SCOPE 6.0: where a call is refused, both areas and `result` keep what they had
unfoldable pub left_by : Outcome → List ℕ → List ℕ → ProcResult → ProcResult → Left
left_by (refused n) x y r r' = record { said = refusal n; result = r; session = x; answers = y }
left_by (answered t x' y') x y r r' = record { said = said_token t; result = r'; session = x'; answers = y' }

unfoldable pub open_of : List ℕ → List ℕ → ProcResult → Inputs → Message → Left
open_of x y r i m = left_by (outcome_of x y (brought i m)) x y r (result_by (sort_of m) (decode x) m r)

-- a finish is not lent `result`: what it was stays
unfoldable pub finish_of : List ℕ → List ℕ → ProcResult → Inputs → ℕ → Option Message → Left
finish_of x y r i t p = left_by (outcome_of x y (finished i t p)) x y r r
