-- `record::layout::put_key` meets its contract.
-- Assumes nothing.
use mathlib.Core.Path.{ap}
use native.Mathlib.Omega.{arith}
use lib.ListN.{length}
use borrow.Author.Rules.{rules}
use Rattle.keys.specs.Text.{full}
use Rattle.lookup.specs.Layout.{part_of}
use Rattle.record.proofs.layout.Keys.{fits_within, its_own, with_own, key_as}
use Rattle.record.proofs.layout.put_key.Statement.{statement}
use Rattle.record.proofs.layout.put_key.Tie as tie

own-part-requires : tie.Need-own_part-requires
own-part-requires c κs = search rules

put-with-requires : tie.Need-put_with-requires
put-with-requires c κs =
    let a = c.args in
    let e = c.own_part.ensures in
    let p = part_of a.block.now a.k in
    let w = fits_within (full a.k.key p) c.requires.3 in
    (search rules, omega (arith, ap length e), search rules, its_own a.k.key p e)

same_length : tie.Need-shape_of-s
same_length c = search rules

returns : tie.Need-returns
returns c =
    let a = c.args in
    key_as a.most a.at a.s.now (with_own a.k.key (part_of a.block.now a.k) c.own_part.ensures) c.put_with.ensures

pub put_key_spec : {M : Type 1} → statement M
put_key_spec = tie.close (tie.spec
    own-part-requires
    put-with-requires
    same_length
    returns)
