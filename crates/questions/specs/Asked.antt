-- What the answer to the questions stands for, and the questions that are put to every call.
-- Assumes nothing.
use Rattle.std.specs.Prelude.{ℕ, Bool, List, [], ◌∷◌, eqb, length, Option, Some, None, Result, Ok, Err}
use Rattle.segmentation.specs.Layout.{table_ok}
use Rattle.lookup.specs.Block.{block_ok}
use Rattle.session.specs.Limits.{KEYS}
use Rattle.session.specs.Questions.{question1}
use Rattle.session.specs.Area.{session_ok}
use Rattle.session.specs.Answers.{refusal_number}
use Rattle.session.specs.declared.Refusal.{Refusal}

-- the number of the first question that was failed, if any
unfoldable pub as_no : {A : Type 0} → Result A Refusal → Option ℕ
as_no (Ok x) = None
as_no (Err r) = Some (refusal_number r)

-- SCOPE 6.0: 1 to 3, 11 and 4 are put to every call
unfoldable pub to_every : List ℕ → List ℕ → List ℕ → List ℕ → List ℕ → List (ℕ × Bool)
to_every x y state block table =
    (1, question1 x y) ∷ (2, eqb (length state) KEYS) ∷ (3, block_ok block) ∷ (11, table_ok table) ∷ (4, session_ok x) ∷ []
