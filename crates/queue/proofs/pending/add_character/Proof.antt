-- `queue::pending::add_character` meets its contract.
-- Assumes nothing.
use mathlib.Core.Path.{refl}
use native.Mathlib.Omega.{arith}
use borrow.Author.Rules.{rules}
use Rattle.session.specs.Session.{character}
use Rattle.queue.proofs.pending.NewEntry.{opened, character_fits}
use Rattle.queue.proofs.pending.add_character.Statement.{statement}
use Rattle.queue.proofs.pending.add_character.Tie as tie

header-at-requires : tie.Need-header_at-h-requires
header-at-requires c κs = search rules

cast-t6 : tie.Need-overflow_cast-token
cast-t6 c = search rules

next-place-requires : tie.Need-next_place-requires
next-place-requires c κs = search rules

put-character-requires : tie.Need-put_character-requires
put-character-requires c κs = search rules

count-one-requires : tie.Need-count_one-requires
count-one-requires c κs = search rules

same_length : tie.Need-shape_of-session
same_length c = search rules

returns : tie.Need-returns
returns c =
    let a = c.args in
    opened a.session.now (λ i. omega (arith, c.slice_known-1.given i)) c.requires character character_fits c.put_character.ensures c.count_one.ensures
    c.header_at-h.ensures.2 c.header_at-h.ensures.0 c.next_place.ensures refl refl

pub add_character_spec : {M : Type 1} → statement M
add_character_spec =
    tie.close
    (tie.spec
    header-at-requires
    cast-t6
    next-place-requires
    put-character-requires
    count-one-requires
    same_length
    returns)
