-- Bytes that are the area of a session, and what such an area must have for another entry.
-- Assumes nothing.
use Rattle.std.specs.Prelude.{◌≡◌, true, List, ℕ, ◌<◌, length}
use Rattle.session.specs.Limits.{AREA, ENTRIES_MOST, TOKENS_MOST}
use Rattle.session.specs.Area.{decode, session_ok}

-- bytes that passed question 4
pub record IsArea (x : List ℕ) : Type 0 where
  pub size : length x ≡ AREA
  pub passed : session_ok x ≡ true

-- .. with an entry and a token left, as questions 7 and 8 ask
pub record HasRoom (x : List ℕ) : Type 0 where
  pub area : IsArea x
  pub entry : length (decode x).entries < ENTRIES_MOST
  pub token : (decode x).handed < TOKENS_MOST
