-- The release that waits is the message's, in range.
-- Assumes nothing.
use Rattle.std.proofs.Common.{refl}
use Rattle.message.proofs.opening.MessageOpened.{opened, release_fits}
use Rattle.message.proofs.opening.open_release.Goals as goal

pub add_release-token-requires : goal.add_release-token-requires
add_release-token-requires c =
    let e = c.from_message-info.ensures in
    let k = c.args.keyboard in
    (c.requires.0, e.1, release_fits k.layout.bytes.now _ k.layout.bytewise k.layout.whole c.args.message.lparam _ _ e.0 c.destructure_key_lparam-l.ensures)

pub returns : goal.returns
returns c =
    opened _ _ _ c.add_release-token.ensures c.no_events.ensures
    (rw (c.from_message-info.ensures.0, c.virtual_key-vkey.ensures, c.destructure_key_lparam-l.ensures) refl)
