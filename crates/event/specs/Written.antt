-- The keys that a focus change writes, told apart from the events that it makes of them.
-- Assumes nothing.
use Rattle.std.specs.Prelude.{ℕ, List, [], ◌∷◌, ◌++◌}
use Rattle.area.specs.Pick.{pick}
use Rattle.lookup.specs.Block.{maps_of}
use Rattle.session.specs.Builder.{Keyboard}
use Rattle.session.specs.Focus.{written}

-- the keyboard of a key state and a block
abbrev pub keyboard_at : List ℕ → List ℕ → Keyboard
keyboard_at state block = record { layout = maps_of block; key_state = state }

-- those of the keys that are written
unfoldable pub written_of : Keyboard → List ℕ → List ℕ
written_of b [] = []
written_of b (vk ∷ vks) = pick (written b vk) (vk ∷ []) [] ++ written_of b vks
