use Rattle.std.proofs.Common.{arith}
use Rattle.export.proofs.Interface.{text_copied}
use Rattle.export.proofs.mahjonglarch_event_text.Goals as goal

pub returns-in-Some : goal.returns-in-Some
returns-in-Some c =
    rw (← c.in-Some.ensures.bytes, c.copy_from_slice.ensures.after)
    (text_copied c.in-Some.bytes.now c.args.text.now c.in-Some.ensures.size (omega arith))
