-- Assumes nothing.
use Rattle.std.proofs.Common.{rules}
use Rattle.session.specs.Builder.{fake}
use Rattle.event.proofs.peeked.is_fake.Goals as goal

pub returns-in-None : goal.returns-in-None
unfolding fake
returns-in-None c = search rules
