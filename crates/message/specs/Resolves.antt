-- The entry that a finish resolves, and what the finish does.
-- Assumes nothing.
use Rattle.std.specs.Prelude.{◌≡◌, List, ℕ, ◌+◌, ◌*◌, length, drop, Option}
use Rattle.segmentation.specs.Table.{Table}
use Rattle.session.specs.Limits.{AREA, ENTRIES_AT, ENTRY_SIZE}
use Rattle.session.specs.Area.{entry}
use Rattle.session.specs.Builder.{Keyboard}
use Rattle.session.specs.Calls.{Effect, find_wait, finish_effect}
use Rattle.session.specs.declared.Message.{Message}
use Rattle.session.specs.Session.{Session}
use Rattle.record.specs.Pending.{pending_of}
use Rattle.record.specs.declared.read.Pending.{Pending}
use Rattle.queue.specs.Place.{StandsAt}

-- the first entry that carries the token t stands at a place and is of a case; the answer area passed its question
pub record EntryAt (k : Pending) (x y : List ℕ) (t place : ℕ) : Type 0 where
  pub stands : StandsAt x t place
  pub answers : length y ≡ AREA
  pub case : pending_of (entry.get (drop (ENTRIES_AT + ENTRY_SIZE * place) x)) ≡ k

-- what the finish of the token t does, with what was peeked
abbrev pub finished_by : Session → Keyboard → Table → ℕ → Option Message → Effect
finished_by s b r t p = finish_effect s b r t p (find_wait t s.entries)
