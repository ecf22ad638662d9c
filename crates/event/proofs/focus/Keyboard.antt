-- The keyboard of a block that passed question 3.
-- Assumes nothing.
use mathlib.Core.Path.{◌≡◌}
use mathlib.Core.Bool.{true}
use mathlib.Core.List.{List, []}
use Prim.Native.Nat.{ℕ, ◌<◌}
use lib.ListN.{get_or}
use Rattle.area.proofs.Bytes.{each-byte}
use Rattle.lookup.specs.Block.{block_ok}
use Rattle.session.specs.Builder.{keyboard_of}
use Rattle.session.proofs.Fits.{KeyboardOk, keyboard_ok}
use Rattle.event.specs.Written.{keyboard_at}

-- its maps are in range
pub keyboard_at_ok : (block state : List ℕ) → ((i : ℕ) → get_or block i 0 < 256) → block_ok block ≡ true → KeyboardOk (keyboard_at state block)
unfolding keyboard_of
keyboard_at_ok block state b o = keyboard_ok (record { key_state = state; block = block; table = [] }) (each-byte block b) o
