-- The keys that a layout answers are in range.
-- Assumes nothing.
use mathlib.Core.Path.{◌≡◌, ap, ◌∙◌}
use mathlib.Core.Bool.{Bool, true}
use mathlib.Core.List.{List}
use Prim.Native.Nat.{ℕ, ◌<◌}
use lib.ListN.{get_or}
use Rattle.area.proofs.Bytes.{each-byte}
use Rattle.keys.specs.Text.{FullKey}
use Rattle.keys.specs.declared.key_code.KeyCode.{KeyCode}
use Rattle.lookup.specs.Block.{block_ok, maps_of}
use Rattle.lookup.specs.Layout.{get_key}
use Rattle.lookup.proofs.block.MapsExact.{maps_exact}
use Rattle.session.specs.Limits.{KEY_TEXT_MOST}
use Rattle.session.specs.Session.{full_key_fits}
use Rattle.session.proofs.Ranges.{KeyFits, get-key_fits}

pub layout_fits :
    (block : List ℕ) → ((i : ℕ) → get_or block i 0 < 256) → block_ok block ≡ true → (mods : ℕ) (num : Bool) (vkey scancode : ℕ) (code : KeyCode) (k : FullKey) →
    scancode < 65536 → k ≡ get_key (maps_of block) mods num vkey scancode code → KeyFits k
layout_fits block bytes ok mods num vkey scancode code k h e =
    ap (full_key_fits KEY_TEXT_MOST) e
    ∙ get-key_fits (maps_of block) (maps_exact block (each-byte block bytes) ok).0 mods num vkey scancode code h
