-- `queue::pending::complete` meets its contract.
-- Assumes nothing.
use mathlib.Core.Path.{refl}
use native.Mathlib.Omega.{arith}
use borrow.Author.Rules.{rules}
use Rattle.record.proofs.write.Entries.{completed_headed}
use Rattle.queue.proofs.pending.EntryOfToken.{completed}
use Rattle.queue.proofs.pending.complete.Statement.{statement}
use Rattle.queue.proofs.pending.complete.Tie as tie

mul-put-completed : tie.Need-overflow_mul-place
mul-put-completed c = search rules

add-put-completed : tie.Need-overflow_add-place
add-put-completed c = search rules

put-completed-requires : tie.Need-put_completed-requires
put-completed-requires c κs = search rules

same_length : tie.Need-shape_of-session
same_length c = search rules

returns : tie.Need-returns
returns c x e b stands fits put =
    completed x b _ _ stands e fits (completed_headed _ _ e x put c.put_completed.ensures) refl refl

pub complete_spec : {M : Type 1} → statement M
complete_spec =
    tie.close
    (tie.spec
    mul-put-completed
    add-put-completed
    put-completed-requires
    same_length
    returns)
