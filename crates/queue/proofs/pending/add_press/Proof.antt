-- `queue::pending::add_press` meets its contract.
-- Assumes nothing.
use mathlib.Core.Path.{refl}
use native.Mathlib.Omega.{arith}
use borrow.Author.Rules.{rules}
use Rattle.session.specs.Session.{press}
use Rattle.queue.proofs.pending.NewEntry.{opened, press_fits}
use Rattle.queue.proofs.pending.add_press.Statement.{statement}
use Rattle.queue.proofs.pending.add_press.Tie as tie

header-at-requires : tie.Need-header_at-h-requires
header-at-requires c κs = search rules

cast-t8 : tie.Need-overflow_cast-token
cast-t8 c = search rules

next-place-requires : tie.Need-next_place-requires
next-place-requires c κs = search rules

put-press-requires : tie.Need-put_press-requires
put-press-requires c κs = search rules

count-one-requires : tie.Need-count_one-requires
count-one-requires c κs = search rules

same_length : tie.Need-shape_of-session
same_length c = search rules

returns : tie.Need-returns
returns c =
    let a = c.args in
    opened a.session.now (λ i. omega (arith, c.slice_known-1.given i)) c.requires (press a.vkey a.l) (press_fits a.vkey a.l (omega (arith, c.ranges.vkey)) (omega (arith, c.well_formed))) c.put_press.ensures c.count_one.ensures
    c.header_at-h.ensures.2 c.header_at-h.ensures.0 c.next_place.ensures refl refl

pub add_press_spec : {M : Type 1} → statement M
add_press_spec =
    tie.close
    (tie.spec
    header-at-requires
    cast-t8
    next-place-requires
    put-press-requires
    count-one-requires
    same_length
    returns)
