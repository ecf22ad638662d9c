-- `record::read::pending_at` meets its contract: by the three marks, which each way out has tested (`pending_got`).
-- Assumes nothing.
use mathlib.Core.List.{List}
use Prim.Native.Nat.{ℕ}
use lib.ListN.{get_or}
use borrow.Author.Tests.{eq-eqb, ne_eqb}
use Rattle.record.proofs.read.Places.{pending_got}
use native.Mathlib.Omega.{arith}
use Rattle.record.proofs.read.pending_at.Statement.{statement}
use Rattle.record.proofs.read.pending_at.Tie as tie

-- from behind the first mark back to the bytes
abbrev bytes : tie.Else-s-ne0 → List ℕ
bytes c = c.args.s.now

shared-slice-read-if1 : tie.Need-bounds-s-2
shared-slice-read-if1 c = omega arith

returns : tie.Need-returns-then-s-ne0
returns c = let l = c.args.s.now in rw (pending_got l, ne_eqb (get_or l 2 0) 0 (λ e. omega arith))

shared-slice-read-if2 : tie.Need-bounds-s-3
shared-slice-read-if2 c = omega arith

returns-2 : tie.Need-returns-then-s-eq0
returns-2 c =
    let l = bytes c.before.before in
    rw (pending_got l, eq-eqb (get_or l 2 0) 0 (omega arith), eq-eqb (get_or l 3 0) 0 (omega arith))

shared-slice-read-if3 : tie.Need-bounds-s-4
shared-slice-read-if3 c = omega arith

returns-3 : tie.Need-returns-then-s-eq0-2
returns-3 c =
    let else_at = c.before.before.before.before in
    let l = bytes else_at in
    rw (pending_got l, eq-eqb (get_or l 2 0) 0 (omega arith), ne_eqb (get_or l 3 0) 0 (λ e. omega arith), eq-eqb (get_or l 4 0) 0 (omega arith))

returns-4 : tie.Need-returns
returns-4 c =
    let else_at = c.before.before.before.before in
    let l = bytes else_at in
    rw (pending_got l, eq-eqb (get_or l 2 0) 0 (omega arith), ne_eqb (get_or l 3 0) 0 (λ e. omega arith), ne_eqb (get_or l 4 0) 0 (λ e. omega arith))

pub pending_at_spec : {M : Type 1} → statement M
pending_at_spec =
    tie.close
    (tie.spec
    shared-slice-read-if1
    returns
    shared-slice-read-if2
    returns-2
    shared-slice-read-if3
    returns-3
    returns-4)
