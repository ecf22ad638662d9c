-- `record::layout::put_bare_key` meets its contract.
-- Assumes nothing.
use borrow.Author.Rules.{rules}
use Rattle.record.proofs.layout.Keys.{own_none}
use Rattle.record.proofs.layout.put_bare_key.Statement.{statement}
use Rattle.record.proofs.layout.put_bare_key.Tie as tie

sub-put-with : tie.Need-slice_bounds-put_with-count
sub-put-with c = search rules

part-put-with-start : tie.Need-slice_bounds-put_with-start
part-put-with-start c = search rules

part-put-with-end : tie.Need-slice_bounds-put_with-end
part-put-with-end c = search rules

put-with-requires : tie.Need-put_with-requires
put-with-requires c κs = (search rules, search rules, search rules, own_none _)

same_length : tie.Need-shape_of-s
same_length c = search rules

returns : tie.Need-returns
returns c = c.put_with.ensures

pub put_bare_key_spec : {M : Type 1} → statement M
put_bare_key_spec =
    tie.close (tie.spec
    sub-put-with
    part-put-with-start
    part-put-with-end
    put-with-requires
    same_length
    returns)
