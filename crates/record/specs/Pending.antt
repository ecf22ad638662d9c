-- What an entry holds, by its case.
-- Assumes nothing.
use Rattle.session.specs.Session.{Wait, press, release, character, Entry, waiting, complete}
use Rattle.record.specs.declared.read.Pending.{Pending}
use Rattle.record.specs.declared.read.Pending.TheVariants as p

unfoldable pub wait_of : Wait → Pending
wait_of (press vkey l) = p.Press
wait_of (release n) = p.Release
wait_of character = p.Character

unfoldable pub pending_of : Entry → Pending
pending_of (waiting t w) = wait_of w
pending_of (complete t e) = p.Complete
