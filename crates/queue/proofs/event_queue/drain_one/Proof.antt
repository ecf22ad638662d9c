-- `queue::event_queue::drain_one` meets its contract.
-- Assumes nothing.
use mathlib.Core.Path.{refl}
use Prim.Native.Nat.{ℕ, ◌+◌, ◌*◌, ◌≤◌, ◌<◌}
use native.Mathlib.Omega.{arith}
use borrow.Author.Rules.{rules}
use lib.ListN.{get_or}
use Rattle.session.specs.Limits.{AREA, ENTRIES_AT, ENTRY_SIZE}
use Rattle.queue.proofs.event_queue.EventOfEntry.{place-within, passed_by, copied}
use Rattle.queue.proofs.event_queue.drain_one.Statement.{statement}
use Rattle.queue.proofs.event_queue.drain_one.Tie as tie

bytes : (c : tie.After-shared_slice_known-1) (i : ℕ) → get_or c.args.session.now i 0 < 256
bytes c i = omega (arith, c.shared_slice_known-1.given i)

within : (c : tie.After-shared_slice_known-1) → ENTRIES_AT + ENTRY_SIZE * c.args.i + ENTRY_SIZE ≤ AREA
within c = place-within c.args.session.now (bytes c) c.requires.0 c.args.i c.requires.2

mul-place : tie.Need-overflow_mul-place
mul-place c = omega (arith, within c.before)

add-place : tie.Need-overflow_add-place
add-place c = omega (arith, within c.before)

add-if1 : tie.Need-overflow_add-place-2
add-if1 c = omega (arith, within c.before)

shared-slice-read-if1 : tie.Need-bounds-session-place
shared-slice-read-if1 c = omega (arith, within c.before.before, c.requires.0.size)

returns : tie.Need-returns-then-session-place-eq0
returns c =
    let a = c.args in
    passed_by a.session.now (bytes c.before.before.before) c.requires.0 a.i c.requires.2 a.at a.answers.now c.if-session-place-eq0.true refl refl

add-copy-part : tie.Need-overflow_add-place-3
add-copy-part c = omega (arith, within c.before.before.before)

mul-copy-part : tie.Need-overflow_mul-at
mul-copy-part c =
    let known = c.before.before.before.before in
    omega (arith, within known)

add-copy-part-2 : tie.Need-overflow_add-at
add-copy-part-2 c =
    let known = c.before.before.before.before in
    omega (arith, within known)

copy-part-requires : tie.Need-copy_part-requires
copy-part-requires c κs =
    let known = c.before.before.before.before in
    (omega (arith, within known, c.requires.0.size), omega (arith, within known))

add-result : tie.Need-overflow_add-result
add-result c =
    let known = c.before.before.before.before.before.before.before in
    omega (arith, within known)

same_length : tie.Need-shape_of-answers
same_length c = search rules

returns-2 : tie.Need-returns
returns-2 c =
    let known = c.before.before.before.before.before.before.before in
    let a = c.args in
    copied a.session.now (bytes known) c.requires.0 a.i c.requires.2 a.at a.answers.now (λ e. omega (arith, c.if-session-place-eq0.false)) c.copy_part.ensures
    refl refl refl refl refl

pub drain_one_spec : {M : Type 1} → statement M
drain_one_spec =
    tie.close
    (tie.spec
    mul-place
    add-place
    add-if1
    shared-slice-read-if1
    returns
    add-copy-part
    mul-copy-part
    add-copy-part-2
    copy-part-requires
    add-result
    same_length
    returns-2)
