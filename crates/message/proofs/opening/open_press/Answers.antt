-- The press that waits is the message's.
-- Assumes nothing.
use Rattle.std.proofs.Common.{refl}
use Rattle.message.proofs.opening.MessageOpened.{opened}
use Rattle.message.proofs.opening.open_press.Goals as goal

pub returns : goal.returns
returns c = opened _ _ _ c.add_press-token.ensures c.no_events.ensures (rw (c.virtual_key-vkey.ensures, c.destructure_key_lparam-l.ensures) refl)
