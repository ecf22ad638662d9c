-- What a call answers, as numbers: what stands for a refusal, a token, and what becomes of the message result.
-- Assumes nothing.
use Rattle.std.specs.Prelude.{ℕ, [], ◌∷◌, eqb, Result, Ok, Err}
use Rattle.std.specs.Int.{w64}
use Rattle.std.proofs.Common.{of_z}
use Rattle.area.specs.Pick.{pick}
use Rattle.area.specs.Look.{assoc}
use Rattle.session.specs.Answers.{Said, refusal, token, no_token, zero_result, refusal_number}
use Rattle.session.specs.declared.Refusal.{Refusal}
use Rattle.session.specs.declared.ProcResult.{ProcResult}
use Rattle.session.specs.declared.ProcResult.TheVariants.{DefWindowProc, Value}

-- stands for a number that there is not
abbrev pub NONE : ℕ
NONE = 4294967295

-- the number of the question that refused the call, 0 where none did
unfoldable pub refusal_of : Said → ℕ
refusal_of (refusal n) = n
refusal_of (token t) = 0
refusal_of no_token = 0

-- the same of what a call of the code answers, an open or a finish
unfoldable pub refused_number : {A : Type 0} → Result A Refusal → ℕ
refused_number (Ok x) = 0
refused_number (Err r) = refusal_number r

-- the token that was opened
unfoldable pub token_number : Said → ℕ
token_number (refusal n) = NONE
token_number (token t) = t
token_number no_token = NONE

-- what becomes of the message result: 1 the default procedure's, 2 value 0, any other number what it was
unfoldable pub changed : ℕ → ProcResult → ProcResult
changed n was = assoc ((1, DefWindowProc) ∷ (2, Value zero_result) ∷ []) was n

-- the number of a message result that was value 1, which no call sets; a value is told by its bits
unfoldable pub change_of : ProcResult → ℕ
change_of DefWindowProc = 1
change_of (Value v) = pick (eqb (of_z w64 v) 0) 2 0
