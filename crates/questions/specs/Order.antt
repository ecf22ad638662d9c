-- The order of a queue: tokens that rise below the number handed out, the first entry unresolved, few messages open.
-- Assumes nothing.
use Rattle.std.specs.Prelude.{Bool, ◌&&◌, List, ℕ, leb}
use Rattle.session.specs.Limits.{OPEN_MOST}
use Rattle.session.specs.Session.{Entry, rising, first_open, open_count}

abbrev pub ordered : ℕ → List Entry → Bool
ordered handed entries = rising 0 handed entries && (first_open handed entries && leb (open_count entries) OPEN_MOST)
