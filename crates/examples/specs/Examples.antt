-- Worked examples: calls, one after the other, and what each must answer. Sessions and keyboards are written as records, break tables as
-- their bytes; a call brings the block that stands for its keyboard.
-- Assumes nothing.
use Rattle.std.specs.Prelude.{◌≡◌, ℕ, zero, suc, ◌+◌, ◌-◌, Bool, true, List, [], ◌∷◌, ◌++◌, eqb, length, replicate, pos, Option, Some, None}
use Rattle.keys.specs.Text.{FullKey}
use Rattle.keys.specs.declared.KeyLocation.{KeyLocation}
use Rattle.keys.specs.declared.key_code.KeyCode.{KeyCode}
use Rattle.lookup.specs.Block.{block_ok}
use Rattle.lookup.specs.Encode.{block_of}
use Rattle.session.specs.Limits.{KEYS}
use Rattle.session.specs.Given.{Inputs, Given, brought, finished}
use Rattle.session.specs.declared.Message.{Message}
use Rattle.session.specs.Event.{Event}
use Rattle.session.specs.Session.{Session, is_session}
use Rattle.session.specs.Builder.{Keyboard, keyboard_of}
use Rattle.session.specs.Calls.{Effect, sort_of, effect_of}
use Rattle.session.specs.Questions.{question11, first_no, session_questions}
use Rattle.session.specs.Answers.{result_by}
use Rattle.session.specs.declared.ElementState.{ElementState}
use Rattle.session.specs.declared.ProcResult.{ProcResult}
use Rattle.session.specs.declared.ProcResult.TheVariants.{Value}

-- a call that brings a message, or that finishes a token with what was peeked, each with its keyboard and break table
pub data Step : Type 0 where
  bring : Keyboard → List ℕ → Message → Step
  finish : Keyboard → List ℕ → ℕ → Option Message → Step

-- the number of a refusal; or the token of the message that was opened, if any, what `result` is then, and the events handed out
pub data Answer : Type 0 where
  refused : ℕ → Answer
  answered : Option ℕ → ProcResult → List Event → Answer

pub record Example : Type 0 where
  pub start : Session
  -- each call with the answer that it must give
  pub calls : List (Step × Answer)

-- ---- the calls: each keyboard as the block and the key state that stand for it

abbrev pub inputs_for : Keyboard → List ℕ → Inputs
inputs_for b r = record { key_state = b.key_state; block = block_of b.layout; table = r }

abbrev pub given : Step → Given
given (bring b r m) = brought (inputs_for b r) m
given (finish b r t p) = finished (inputs_for b r) t p

abbrev pub keyboard_in : Step → Keyboard
keyboard_in (bring b r m) = b
keyboard_in (finish b r t p) = b

-- whatever the break table, the inputs pass questions 2 and 3, and stand for the keyboard
abbrev pub Brought : Keyboard → Type 0
Brought b =
    (eqb (length b.key_state) KEYS ≡ true) × (block_ok (block_of b.layout) ≡ true) × ((r : List ℕ) → keyboard_of (inputs_for b r) ≡ b)

abbrev pub AllBrought : List (Step × Answer) → Type 0
AllBrought [] = Unit {0}
AllBrought (c ∷ cs) = Brought (keyboard_in c.0) × AllBrought cs

-- ---- the run: the questions 11 and 5 to 10, the effects and `result` are those of the calls' own definitions (Questions.antt, Calls.antt, Answers.antt)

abbrev pub refusal : Session → Step → Option ℕ
refusal s x = first_no ((11, question11 (given x)) ∷ session_questions s (given x))

abbrev pub effect : Session → Step → Effect
effect s x = effect_of s (given x)

-- what `result` is before each call, and what it is after one that is not refused
abbrev pub lent : ProcResult
lent = Value (pos 7)

abbrev pub result : Session → Step → ProcResult
result s (bring b r m) = result_by (sort_of m) s m lent
result s (finish b r t p) = lent

abbrev pub answer_by : Option ℕ → ProcResult → Effect → Answer
answer_by None r f = answered f.token r f.events
answer_by (Some n) r f = refused n

abbrev pub after_by : Option ℕ → Session → Effect → Session
after_by None s f = f.after
after_by (Some n) s f = s

-- calls one after the other, by what refuses them and what they do
abbrev pub answers_by : (Session → Step → Option ℕ) → (Session → Step → Effect) → Session → List (Step × Answer) → List Answer
answers_by r f s [] = []
answers_by r f s (c ∷ cs) =
    answer_by (r s c.0) (result s c.0) (f s c.0) ∷ answers_by r f (after_by (r s c.0) s (f s c.0)) cs

abbrev pub expected_in : List (Step × Answer) → List Answer
expected_in [] = []
expected_in (c ∷ cs) = c.1 ∷ expected_in cs

-- An example holds: its start is a session (one that is not fresh is as tao's own queue was), its calls can be made, and the definitions give
-- to each the answer that it must give.
pub record Holds (x : Example) : Type 0 where
  pub start_ok : is_session x.start ≡ true
  pub can_come : AllBrought x.calls
  pub answers : answers_by refusal effect x.start x.calls ≡ expected_in x.calls

abbrev pub AllHold : List Example → Type 0
AllHold [] = Unit {0}
AllHold (x ∷ xs) = Holds x × AllHold xs

-- ---- words that the examples are written with

-- n cells, given by place and value those that are not 0, the places rising from i on
abbrev pub cells_from : ℕ → ℕ → List (ℕ × ℕ) → List ℕ
cells_from n i [] = replicate {A = ℕ} (n - i) 0
cells_from n i (c ∷ cs) = replicate {A = ℕ} (c.0 - i) 0 ++ (c.1 ∷ cells_from n (c.0 + 1) cs)

abbrev pub cells : ℕ → List (ℕ × ℕ) → List ℕ
cells n cs = cells_from n 0 cs

-- n times the same event, before others
abbrev pub times : ℕ → Event → List Event → List Event
times zero e es = es
times (suc n) e es = e ∷ times n e es

-- kind, wParam, lParam
abbrev pub message : ℕ → ℕ → ℕ → Message
message kind wparam lparam = record { kind = kind; wparam = wparam; lparam = lparam }

-- an event's fields in their order: physical key, logical key, text, location, state, repeat, synthetic, text with all modifiers, key
-- without modifiers
abbrev pub key_event : KeyCode → FullKey → Option (List ℕ) → KeyLocation → ElementState → Bool → Bool → Option (List ℕ) → FullKey → Event
key_event physical logical text location state repeat synthetic all plain =
    record {
      physical_key = physical;
      logical_key = logical;
      text = text;
      location = location;
      state = state;
      repeat = repeat;
      synthetic = synthetic;
      text_with_all_modifiers = all;
      key_without_modifiers = plain;
    }
