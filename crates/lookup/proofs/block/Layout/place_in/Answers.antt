-- A block that passed has list j where it is looked for.
-- Assumes nothing.
use Rattle.std.proofs.Common.{arith}
use Rattle.lookup.specs.Block.{place_in_list}
use Rattle.lookup.proofs.block.Passed.{passed, listed}
use Rattle.lookup.proofs.block.Layout.place_in.Goals as goal

pub start_of-start-requires : goal.start_of-start-requires
start_of-start-requires c = let b = passed c.args.self.bytes.now c.args.self.whole in (b.head, omega arith)

pub get_u16-n-requires : goal.get_u16-n-requires
get_u16-n-requires c = let h = (passed c.args.self.bytes.now c.args.self.whole).head in omega arith

pub place-requires : goal.place-requires
place-requires c =
    let b = passed c.args.self.bytes.now c.args.self.whole in
    let l = listed c.args.self.bytes.now c.args.j b c.requires in
    rw (c.start_of-start.ensures, c.get_u16-n.ensures) (l.within, b.most, l.ok)

pub returns : goal.returns
unfolding place_in_list
returns c = rw (c.place.ensures, c.start_of-start.ensures, c.get_u16-n.ensures)
