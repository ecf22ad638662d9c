-- `record::layout::put_plain_key` meets its contract.
-- Assumes nothing.
use borrow.Author.Rules.{rules}
use Rattle.session.specs.Limits.{KEY_TEXT_MOST}
use Rattle.record.proofs.layout.Keys.{plain_dead, plain_undead, key_as}
use Rattle.record.proofs.layout.put_plain_key.Statement.{statement}
use Rattle.record.proofs.layout.put_plain_key.Tie as tie

put-key-requires : tie.Need-put_key-requires
put-key-requires c κs = search rules

same_length : tie.Need-shape_of-s-then-dead
same_length c = search rules

returns : tie.Need-returns-then-dead
returns c =
    let a = c.args in
    key_as KEY_TEXT_MOST a.at a.s.now (plain_dead a.block.now a.k c.if-dead.true) c.put_key.ensures

put-undead-key-requires : tie.Need-put_undead_key-requires
put-undead-key-requires c κs = search rules

same-length-2 : tie.Need-shape_of-s
same-length-2 c = search rules

returns-2 : tie.Need-returns
returns-2 c =
    let a = c.args in
    key_as KEY_TEXT_MOST a.at a.s.now (plain_undead a.block.now a.k c.if-dead.false) c.put_undead_key.ensures

pub put_plain_key_spec : {M : Type 1} → statement M
put_plain_key_spec =
    tie.close
    (tie.spec
    put-key-requires
    same_length
    returns
    put-undead-key-requires
    same-length-2
    returns-2)
