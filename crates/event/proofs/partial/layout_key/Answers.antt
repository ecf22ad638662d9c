-- Assumes nothing.
use Rattle.std.proofs.Common.{◌≡◌, arith}
use Rattle.lookup.specs.Block.{maps_of}
use Rattle.lookup.specs.Codes.{key_code_of}
use Rattle.lookup.specs.Layout.{get_key, key_in}
use Rattle.lookup.specs.Modifiers.{bits_of}
use Rattle.event.proofs.partial.LayoutKeys.{layout_fits}
use Rattle.event.proofs.partial.layout_key.Goals as goal

pub returns : goal.returns
returns c =
    let a = c.args in
    let e : key_in a.layout.bytes.now c.get_key.result ≡ get_key (maps_of a.layout.bytes.now) (bits_of a.mods) a.num_lock_on a.vkey a.scancode (key_code_of a.scancode) = cc in
    (e, layout_fits a.layout.bytes.now a.layout.bytewise a.layout.whole _ _ _ _ _ _ (omega arith) e)
