-- `queue::held_event::put_last_text` meets its contract.
-- Assumes nothing.
use borrow.Author.Rules.{rules}
use Rattle.queue.specs.Completing.{held_in}
use Rattle.queue.proofs.held_event.EventParts.{last_typed, last-layout, layout_fits, stands_as}
use Rattle.queue.proofs.held_event.put_last_text.Statement.{statement}
use Rattle.queue.proofs.held_event.put_last_text.Tie as tie

enum_told : tie.Need-enum_told-1
enum_told c = search rules

put-typed-requires : tie.Need-put_typed-requires
put-typed-requires c κs = search rules

enum-known-last : tie.Need-enum_known-last
enum-known-last c = search rules

put-layout-text-requires : tie.Need-put_layout_text-requires
put-layout-text-requires c κs =
    (search rules, search rules, layout_fits c.args.block.now c.requires.2 c.in-Layout.is)

same_length : tie.Need-shape_of-session-in-Typed
same_length c = search rules

same-length-2 : tie.Need-shape_of-answers-in-Typed
same-length-2 c = search rules

returns : tie.Need-returns-in-Typed
returns c =
    let a = c.args in
    stands_as _ _ (last_typed a.block.now (held_in a.session.now).units c.in-Typed.is) c.put_typed.ensures

same-length-3 : tie.Need-shape_of-session-in-Layout
same-length-3 c = search rules

same-length-4 : tie.Need-shape_of-answers-in-Layout
same-length-4 c = search rules

returns-2 : tie.Need-returns-in-Layout
returns-2 c =
    let a = c.args in
    stands_as _ _ (last-layout a.block.now (held_in a.session.now).units c.in-Layout.is) c.put_layout_text.ensures

pub put_last_text_spec : {M : Type 1} → statement M
put_last_text_spec =
    tie.close
    (tie.spec
    enum_told
    put-typed-requires
    enum-known-last
    put-layout-text-requires
    same_length
    same-length-2
    returns
    same-length-3
    same-length-4
    returns-2)
