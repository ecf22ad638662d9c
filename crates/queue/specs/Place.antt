-- Where the first entry that carries a token stands in the queue.
-- Assumes nothing.
use Rattle.std.specs.Prelude.{◌≡◌, List, [], ◌∷◌, ℕ, suc, ◌<◌, eqb, length}
use Rattle.area.specs.Pick.{pick}
use Rattle.session.specs.Session.{Entry, token_of}
use Rattle.session.specs.Area.{decode}
use Rattle.queue.specs.Room.{IsArea}

-- the number of entries before it, or of all where none carries it
unfoldable pub place_of_token : ℕ → List Entry → ℕ
place_of_token t [] = 0
place_of_token t (x ∷ r) = pick (eqb t (token_of x)) 0 (suc (place_of_token t r))

-- the first entry that carries the token t stands at a place of a session's area
pub record StandsAt (x : List ℕ) (t place : ℕ) : Type 0 where
  pub area : IsArea x
  pub found : place ≡ place_of_token t (decode x).entries
  pub within : place < length (decode x).entries
