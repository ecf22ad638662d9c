-- The C interface: what the calls leave in numbers, a peeked message, a number of events.
-- Assumes nothing.
use Rattle.std.specs.Prelude.{ℕ, ◌≤◌, ◌≡◌, List, eqb, Option, Some, None}
use Rattle.area.specs.Pick.{pick}
use Rattle.area.specs.Bytes.{num}
use Rattle.session.specs.declared.Message.{Message}
use Rattle.session.specs.Answers.{Left}
use Rattle.session.specs.declared.ProcResult.{ProcResult}
use Rattle.export.specs.Numbers.{NONE, refusal_of, token_number, changed}
use Rattle.export.specs.Events.{is_answer}

-- the number of this interface: it rises with each change of a signature, of what a number means, or of an area
abbrev pub INTERFACE : ℕ
INTERFACE = 2

-- an open in numbers: its refusal, its token, what becomes of the message result, and both areas are those of all that it leaves
abbrev pub OpenSays : ℕ → ℕ → ℕ → List ℕ → List ℕ → Left → ProcResult → Type 0
OpenSays refused opened result session answers l was =
    (refused ≡ refusal_of l.said) × (opened ≡ token_number l.said) × (changed result was ≡ l.result) × (result ≤ 2) × (session ≡ l.session) × (answers ≡ l.answers)

-- a finish likewise
abbrev pub FinishSays : ℕ → List ℕ → List ℕ → Left → Type 0
FinishSays refused session answers l = (refused ≡ refusal_of l.said) × (session ≡ l.session) × (answers ≡ l.answers)

-- the peeked message, or its absence where `present` is 0
unfoldable pub peeked_as : ℕ → ℕ → ℕ → ℕ → Option Message
peeked_as present kind wparam lparam = pick (eqb present 0) None (Some (record { kind = kind; wparam = wparam; lparam = lparam }))

-- the number of events of an answer area
unfoldable pub count_of : List ℕ → ℕ
count_of x = pick (is_answer x) (num 2 0 x) NONE
