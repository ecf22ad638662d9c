use Rattle.std.proofs.Common.{rules}
use Rattle.record.proofs.Written.{flag-put, written_as}
use Rattle.record.proofs.write.put_flag.Goals as goal

pub returns : goal.returns
returns c = written_as c.args.at c.args.s.now (flag-put c.args.b (search rules)) c.put_u8.ensures
