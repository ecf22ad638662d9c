-- Assumes nothing.
use Rattle.std.proofs.Common.{sym, ap, ◌∙◌, rules}
use Rattle.area.specs.Zero.{all_zero}
use Rattle.area.proofs.Splice.{part_rest}
use Rattle.area.proofs.Zero.{all_zero_end, scanned}
use Rattle.area.proofs.scan.zero_from.Goals as goal

pub returns-then-s-n : goal.returns-then-s-n
returns-then-s-n c = sym (all_zero_end c.args.n c.args.s.now (search rules))

pub returns : goal.returns
returns c = scanned _ _ c.or_all.ensures ∙ ap all_zero (part_rest c.args.n c.args.s.now)
