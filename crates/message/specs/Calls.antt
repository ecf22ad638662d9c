-- What the calls leave, in the terms of what they are given and of their answers.
-- Assumes nothing.
use Rattle.std.specs.Prelude.{List, ℕ}
use Rattle.session.specs.Given.{Inputs}
use Rattle.session.specs.declared.Message.{Message}
use Rattle.session.specs.Answers.{Left, Said}
use Rattle.session.specs.declared.ProcResult.{ProcResult}

abbrev pub inputs : List ℕ → List ℕ → List ℕ → Inputs
inputs state block table = record { key_state = state; block = block; table = table }

abbrev pub message : ℕ → ℕ → ℕ → Message
message kind wparam lparam = record { kind = kind; wparam = wparam; lparam = lparam }

abbrev pub left : Said → ProcResult → List ℕ → List ℕ → Left
left said result session answers = record { said = said; result = result; session = session; answers = answers }
