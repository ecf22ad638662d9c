-- `queue::held_event::put_last_code` meets its contract.
-- Assumes nothing.
use mathlib.Core.Path.{ap, ◌∙◌}
use borrow.Author.Rules.{rules}
use Rattle.lookup.specs.Codes.{key_code_of}
use Rattle.session.specs.Area.{key_code}
use Rattle.queue.proofs.held_event.Press.{scancode_in}
use Rattle.queue.proofs.held_event.EventParts.{stands_as}
use Rattle.queue.proofs.held_event.put_last_code.Statement.{statement}
use Rattle.queue.proofs.held_event.put_last_code.Tie as tie

get-u16-requires : tie.Need-get_u16-scancode-requires
get-u16-requires c κs = search rules

keycode-from-scancode-requires : tie.Need-keycode_from_scancode-code-requires
keycode-from-scancode-requires c κs = search rules

put-code-requires : tie.Need-put_code-requires
put-code-requires c κs = search rules

same_length : tie.Need-shape_of-session
same_length c = search rules

same-length-2 : tie.Need-shape_of-answers
same-length-2 c = search rules

returns : tie.Need-returns
returns c =
    stands_as _ 0
    (ap key_code.put (c.keycode_from_scancode-code.ensures ∙ ap key_code_of (c.get_u16-scancode.ensures ∙ scancode_in c.args.session.now)))
    c.put_code.ensures

pub put_last_code_spec : {M : Type 1} → statement M
put_last_code_spec =
    tie.close
    (tie.spec
    get-u16-requires
    keycode-from-scancode-requires
    put-code-requires
    same_length
    same-length-2
    returns)
