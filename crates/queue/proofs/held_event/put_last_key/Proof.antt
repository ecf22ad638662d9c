-- `queue::held_event::put_last_key` meets its contract.
-- Assumes nothing.
use borrow.Author.Rules.{rules}
use Rattle.session.specs.InBlock.{last_in}
use Rattle.queue.specs.Completing.{held_in}
use Rattle.queue.proofs.held_event.EventParts.{last-held, last-unidentified, last-character, stands_as}
use Rattle.queue.proofs.held_event.put_last_key.Statement.{statement}
use Rattle.queue.proofs.held_event.put_last_key.Tie as tie

enum_told : tie.Need-enum_told-1
enum_told c = search rules

put-known-key-requires : tie.Need-put_known_key-requires
put-known-key-requires c κs = search rules

enum-told-2 : tie.Need-enum_told-in-Unidentified
enum-told-2 c = search rules

put-known-key-requires-2 : tie.Need-put_known_key-requires-in-Unidentified
put-known-key-requires-2 c κs = search rules

enum-told-3 : tie.Need-enum_told-in-Text
enum-told-3 c = search rules

put-text-key-requires : tie.Need-put_text_key-requires
put-text-key-requires c κs = search rules

same_length : tie.Need-shape_of-session-in-Held
same_length c = search rules

same-length-2 : tie.Need-shape_of-answers-in-Held
same-length-2 c = search rules

returns : tie.Need-returns-in-Held
returns c =
    let a = c.args in
    let h = held_in a.session.now in
    stands_as _ 6 (last-held h.info (last_in a.block.now h.units a.last) c.in-Held.is) c.put_known_key.ensures

same-length-3 : tie.Need-shape_of-session-in-Unidentified
same-length-3 c = search rules

same-length-4 : tie.Need-shape_of-answers-in-Unidentified
same-length-4 c = search rules

returns-2 : tie.Need-returns-in-Unidentified
returns-2 c =
    let a = c.args in
    let h = held_in a.session.now in
    stands_as _ 6 (last-unidentified h.info (last_in a.block.now h.units a.last) c.in-Unidentified.is) c.put_known_key-in-Unidentified.ensures

same-length-5 : tie.Need-shape_of-session-in-Text
same-length-5 c = search rules

same-length-6 : tie.Need-shape_of-answers-in-Text
same-length-6 c = search rules

returns-3 : tie.Need-returns-in-Text
returns-3 c =
    let a = c.args in
    let h = held_in a.session.now in
    stands_as _ 6 (last-character h.info (last_in a.block.now h.units a.last) c.in-Text.is) c.put_text_key.ensures

pub put_last_key_spec : {M : Type 1} → statement M
put_last_key_spec =
    tie.close
    (tie.spec
    enum_told
    put-known-key-requires
    enum-told-2
    put-known-key-requires-2
    enum-told-3
    put-text-key-requires
    same_length
    same-length-2
    returns
    same-length-3
    same-length-4
    returns-2
    same-length-5
    same-length-6
    returns-3)
