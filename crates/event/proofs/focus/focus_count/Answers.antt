-- Assumes nothing.
use Rattle.std.proofs.Common.{◌∙◌}
use Rattle.event.proofs.focus.Events.{count}
use Rattle.event.proofs.focus.focus_count.Goals as goal

pub returns : goal.returns
returns c =
    c.len.ensures.value ∙ count c.args.keyboard.layout.bytes.now c.args.keyboard.state.now c.args.st c.focus_keys.result.items c.focus_keys.ensures
