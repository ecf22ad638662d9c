-- `record::layout::put_text` meets its contract.
-- Assumes nothing.
use mathlib.Core.Path.{refl}
use borrow.Author.Rules.{rules}
use Rattle.keys.specs.Text.{text_from}
use Rattle.keys.specs.declared.KeyText.TheVariants.{Nothing, Own, Byte}
use Rattle.lookup.specs.Layout.{part_of}
use Rattle.record.proofs.layout.Texts.{own_within, text-given}
use Rattle.record.proofs.layout.put_text.Statement.{statement}
use Rattle.record.proofs.layout.put_text.Tie as tie

enum_told : tie.Need-enum_told-1
enum_told c = search rules

sub-put-part : tie.Need-slice_bounds-put_part-count
sub-put-part c = search rules

part-put-part-start : tie.Need-slice_bounds-put_part-start
part-put-part-start c = search rules

part-put-part-end : tie.Need-slice_bounds-put_part-end
part-put-part-end c = search rules

put-part-requires : tie.Need-put_part-requires
put-part-requires c κs = search rules

enum-told-2 : tie.Need-enum_told-in-Own
enum-told-2 c = search rules

key-text-requires : tie.Need-key_text-requires
key-text-requires c κs = search rules

put-part-requires-2 : tie.Need-put_part-requires-in-Own
put-part-requires-2 c κs =
    let a = c.args in
    let p = part_of a.block.now a.k in
    (search rules, own_within p a.t c.requires.1 c.in-Own.is c.key_text.ensures, search rules)

enum-known-t : tie.Need-enum_known-t
enum-known-t c = search rules

sub-put-part-2 : tie.Need-slice_bounds-put_part-count-in-Byte
sub-put-part-2 c = search rules

part-put-part-start-2 : tie.Need-slice_bounds-put_part-start-in-Byte
part-put-part-start-2 c = search rules

part-put-part-end-2 : tie.Need-slice_bounds-put_part-end-in-Byte
part-put-part-end-2 c = search rules

put-part-requires-3 : tie.Need-put_part-requires-in-Byte
put-part-requires-3 c κs = search rules

same_length : tie.Need-shape_of-s-in-Nothing
same_length c = search rules

returns : tie.Need-returns-in-Nothing
unfolding text_from
returns c =
    let a = c.args in
    let p = part_of a.block.now a.k in
    text-given p a.t Nothing _ a.at a.s.now c.in-Nothing.is refl c.put_part.ensures

same-length-2 : tie.Need-shape_of-s-in-Own
same-length-2 c = search rules

returns-2 : tie.Need-returns-in-Own
unfolding text_from
returns-2 c =
    let a = c.args in
    let p = part_of a.block.now a.k in
    text-given p a.t Own _ a.at a.s.now c.in-Own.is c.key_text.ensures c.put_part-in-Own.ensures

same-length-3 : tie.Need-shape_of-s-in-Byte
same-length-3 c = search rules

returns-3 : tie.Need-returns-in-Byte
unfolding text_from
returns-3 c =
    let a = c.args in
    let p = part_of a.block.now a.k in
    text-given p a.t (Byte _) _ a.at a.s.now c.in-Byte.is refl c.put_part-in-Byte.ensures

pub put_text_spec : {M : Type 1} → statement M
put_text_spec =
    tie.close
    (tie.spec
    enum_told
    sub-put-part
    part-put-part-start
    part-put-part-end
    put-part-requires
    enum-told-2
    key-text-requires
    put-part-requires-2
    enum-known-t
    sub-put-part-2
    part-put-part-start-2
    part-put-part-end-2
    put-part-requires-3
    same_length
    returns
    same-length-2
    returns-2
    same-length-3
    returns-3)
