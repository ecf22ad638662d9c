-- `queue::held_event::put_known_key` meets its contract.
-- Assumes nothing.
use mathlib.Core.Path.{ap, ◌∙◌}
use Prim.Native.Nat.{ℕ}
use borrow.Author.Rules.{rules}
use Rattle.keys.specs.Text.{unidentified}
use Rattle.keys.specs.declared.NativeKeyCode.TheVariants.{Windows}
use Rattle.session.specs.Area.{full_key}
use Rattle.session.specs.Limits.{TEXT_MOST}
use Rattle.queue.specs.Completing.{held_in}
use Rattle.queue.proofs.held_event.Press.{scancode_in}
use Rattle.queue.proofs.held_event.EventParts.{known_held, known_not, stands_as}
use Rattle.queue.proofs.held_event.put_known_key.Statement.{statement}
use Rattle.queue.proofs.held_event.put_known_key.Tie as tie

put-kept-key-requires : tie.Need-put_kept_key-requires
put-kept-key-requires c κs = search rules

same_length : tie.Need-shape_of-session-then-known
same_length c = search rules

same-length-2 : tie.Need-shape_of-answers-then-known
same-length-2 c = search rules

returns : tie.Need-returns-then-known
returns c =
    stands_as _ 6 (known_held _ _ c.if-known.true) c.put_kept_key.ensures

get-u16-requires : tie.Need-get_u16-scancode-requires
get-u16-requires c κs = search rules

put-unidentified-requires : tie.Need-put_unidentified-requires
put-unidentified-requires c κs = search rules

same-length-3 : tie.Need-shape_of-session
same-length-3 c = search rules

same-length-4 : tie.Need-shape_of-answers
same-length-4 c = search rules

returns-2 : tie.Need-returns
returns-2 c =
    let x = c.args.session.now in
    stands_as _ 6
    (ap (λ (n : ℕ). (full_key TEXT_MOST).put (unidentified (Windows n))) (c.get_u16-scancode.ensures ∙ scancode_in x) ∙ known_not (held_in x).info.logical_key _ c.if-known.false)
    c.put_unidentified.ensures

pub put_known_key_spec : {M : Type 1} → statement M
put_known_key_spec =
    tie.close
    (tie.spec
    put-kept-key-requires
    same_length
    same-length-2
    returns
    get-u16-requires
    put-unidentified-requires
    same-length-3
    same-length-4
    returns-2)
