-- `queue::pending::add_release` meets its contract.
-- Assumes nothing.
use mathlib.Core.Path.{refl}
use native.Mathlib.Omega.{arith}
use borrow.Author.Rules.{rules}
use Rattle.session.specs.Session.{release}
use Rattle.session.specs.InBlock.{info_in}
use Rattle.queue.proofs.pending.NewEntry.{opened, release_fits}
use Rattle.queue.proofs.pending.add_release.Statement.{statement}
use Rattle.queue.proofs.pending.add_release.Tie as tie

header-at-requires : tie.Need-header_at-h-requires
header-at-requires c κs = search rules

cast-t8 : tie.Need-overflow_cast-token
cast-t8 c = search rules

next-place-requires : tie.Need-next_place-requires
next-place-requires c κs = search rules

put-release-requires : tie.Need-put_release-requires
put-release-requires c κs = search rules

count-one-requires : tie.Need-count_one-requires
count-one-requires c κs = search rules

same_length : tie.Need-shape_of-session
same_length c = search rules

returns : tie.Need-returns
returns c =
    let a = c.args in
    opened a.session.now (λ i. omega (arith, c.slice_known-1.given i)) c.requires.0 (release (info_in a.block.now a.n)) (release_fits (info_in a.block.now a.n) c.requires.2) c.put_release.ensures c.count_one.ensures
    c.header_at-h.ensures.2 c.header_at-h.ensures.0 c.next_place.ensures refl refl

pub add_release_spec : {M : Type 1} → statement M
add_release_spec =
    tie.close
    (tie.spec
    header-at-requires
    cast-t8
    next-place-requires
    put-release-requires
    count-one-requires
    same_length
    returns)
