-- What a contract sees of the keys that a focus change writes (SCOPE 3.14), in the order in which it writes them.
-- Assumes nothing.
use Rattle.std.specs.Prelude.{ℕ, List}

-- the virtual keys, and the bytes of the room that is left, of which no clause says anything
pub record FocusKeys : Type 0 where
  pub items : List ℕ
  pub spare : List ℕ
