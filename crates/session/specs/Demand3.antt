-- Demand 3 (SCOPE 1.3), as a statement. proofs/Demand3.antt has its proof, `demand3 : Demand3`.
-- Assumes nothing.
use Rattle.std.specs.Prelude.{◌≡◌, ℕ, ◌≤◌, true, List, [], ◌∷◌, map, length, None}
use Rattle.session.specs.Limits.{AREA, KEYS}
use Rattle.segmentation.specs.Layout.{table_ok}
use Rattle.lookup.specs.Block.{block_ok}
use Rattle.session.specs.Area.{decode, session_ok}
use Rattle.session.specs.Answers.{Outcome, refused, answered, fresh_area}
use Rattle.session.specs.Book.{Note}
use Rattle.session.specs.Run.{Call, State, Closing, start, run, closings, CallsInRange, ClosingsInRange}

-- SCOPE 7.4: inputs are well-formed where they pass every question that is put to inputs alone, 1 to 3 and 11
pub record WellFormed (k : Closing) : Type 0 where
  pub answers : length k.answers ≡ AREA
  pub key_state : length k.inputs.key_state ≡ KEYS
  pub block : block_ok k.inputs.block ≡ true
  pub table : table_ok k.inputs.table ≡ true

abbrev pub AllWellFormed : List Closing → Type 0
AllWellFormed [] = Unit {0}
AllWellFormed (k ∷ ks) = WellFormed k × AllWellFormed ks

-- no call of a list is refused
abbrev pub Answered : List Outcome → Type 0
Answered [] = Unit {0}
Answered (refused n ∷ r) = ⊥
Answered (answered t x y ∷ r) = Answered r

-- SCOPE 7.3: no call of such a run fails question 4
abbrev pub NoFour : List Outcome → Type 0
NoFour [] = Unit {0}
NoFour (refused n ∷ r) = (n ≡ 4 → ⊥) × NoFour r
NoFour (answered t x y ∷ r) = NoFour r

-- numbers that do not fall
abbrev pub Rising : ℕ → List Note → Type 0
Rising lo [] = Unit {0}
Rising lo (x ∷ r) = (lo ≤ x.number) × Rising x.number r

-- SCOPE 1.3: what holds at the end of a run whose open messages were finished by closings.
pub record Closed (closed end : State) : Type 0 where
  -- no closing is refused (of the closings' own run, `closed`)
  pub none_refused : Answered closed.outcomes
  -- SCOPE 7.3: no call of such a run fails question 4
  pub no_four : NoFour end.outcomes
  -- SCOPE 1.3, 7.11: the events handed out over the whole run are exactly those that the book notes, each once, in the order of arrival of the
  -- messages that completed them
  pub handed_out : end.out ≡ map (λ (x : Note). x.event) end.book.noted
  pub by_number : Rising 0 end.book.noted
  -- nothing waits when nothing is open: the area is that of a session without entries that has handed out no token
  pub nothing_open : end.book.opened ≡ []
  pub sized : length end.area ≡ AREA
  pub a_session : session_ok end.area ≡ true
  pub no_entry : (decode end.area).entries ≡ []
  pub no-token : (decode end.area).handed ≡ 0
  -- if no press is held either, the session area equals a fresh one in every byte
  pub as_fresh : end.book.held ≡ None → end.area ≡ fresh_area

-- Its premises: the blocks are of bytes, which every block that the code is lent is (proofs/Premises.antt), and the closings are what demand 3
-- says, well-formed, and one for each open message.
-- SCOPE 1.3: for every list of opens and finishes from a fresh session, refused ones among them and whatever they bring, each call, closings too,
-- being given the session area as the one before left it, and what is open after the list being finished, the latest first.
abbrev pub Demand3 : Type 0
Demand3 =
    (cs : List Call) (ks : List Closing) → CallsInRange cs →
    let st : State = run start cs in
    let cl : List Call = closings st.tokens ks in
    ClosingsInRange ks → AllWellFormed ks → length ks ≡ length st.tokens →
    Closed (run (record { area = st.area; tokens = st.tokens; book = st.book; out = st.out; outcomes = [] }) cl) (run st cl)
