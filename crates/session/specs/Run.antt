-- A run: calls one after the other, each handed the session area as the one before left it, and the book beside them.
-- Assumes nothing.
use Rattle.std.specs.Prelude.{ℕ, true, false, List, [], ◌∷◌, ◌++◌, Option, Some, None}
use Rattle.area.specs.Bytes.{Bytes}
use Rattle.session.specs.Given.{Inputs, Given, brought, finished, inputs_of}
use Rattle.session.specs.declared.Message.{Message}
use Rattle.session.specs.Event.{Event}
use Rattle.session.specs.Area.{decode_answer}
use Rattle.session.specs.Answers.{Outcome, refused, answered, outcome_of, fresh_area}
use Rattle.session.specs.Book.{Book, empty_book, book_step}

-- a call of a list: what it is given, and the answer area as it was
pub record Call : Type 0 where
  pub given : Given
  pub answers : List ℕ

pub record State : Type 0 where
  -- the session area
  pub area : List ℕ
  -- the tokens that the opens of the open messages returned, the latest first
  pub tokens : List ℕ
  pub book : Book
  -- the events handed out, read back from the answer areas
  pub out : List Event
  pub outcomes : List Outcome

-- SCOPE 1.3: from a fresh session
unfoldable pub start : State
start = record { area = fresh_area; tokens = []; book = empty_book; out = []; outcomes = [] }

abbrev pub pushed : Option ℕ → List ℕ → List ℕ
pushed None l = l
pushed (Some t) l = t ∷ l

abbrev pub popped : List ℕ → List ℕ
popped [] = []
popped (t ∷ l) = l

-- an answered open that opened pushes its token, an answered finish takes the latest away
unfoldable pub retoken : Given → Option ℕ → List ℕ → List ℕ
retoken (brought i m) t l = pushed t l
retoken (finished i u p) t l = popped l

unfoldable pub joined : State → Given → Outcome → State
joined st g (refused n) =
    record { area = st.area; tokens = st.tokens; book = book_step true st.book g; out = st.out; outcomes = st.outcomes ++ (refused n ∷ []) }
joined st g (answered t x y) =
    record {
      area = x;
      tokens = retoken g t st.tokens;
      book = book_step false st.book g;
      out = st.out ++ decode_answer y;
      outcomes = st.outcomes ++ (answered t x y ∷ []);
    }

unfoldable pub next : State → Call → State
next st c = joined st c.given (outcome_of st.area c.answers c.given)

unfoldable pub run : State → List Call → State
run st [] = st
run st (c ∷ cs) = run (next st c) cs

-- ---- machine ranges: each block that a call brings is of bytes. No other value needs a range.

abbrev pub CallsInRange : List Call → Type 0
CallsInRange [] = Unit {0}
CallsInRange (c ∷ cs) = Bytes (inputs_of c.given).block × CallsInRange cs

-- ---- closings

-- what a closing brings beside its token
pub record Closing : Type 0 where
  pub inputs : Inputs
  pub peeked : Option Message
  pub answers : List ℕ

abbrev pub ClosingsInRange : List Closing → Type 0
ClosingsInRange [] = Unit {0}
ClosingsInRange (k ∷ ks) = Bytes k.inputs.block × ClosingsInRange ks

-- SCOPE 1.3, 7.4: what is open after the list is finished, the latest first, each with the token that its message's open returned
unfoldable pub closings : List ℕ → List Closing → List Call
closings [] ks = []
closings (t ∷ ts) [] = []
closings (t ∷ ts) (k ∷ ks) = record { given = finished k.inputs t k.peeked; answers = k.answers } ∷ closings ts ks
