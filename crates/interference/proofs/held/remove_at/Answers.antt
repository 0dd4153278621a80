use Rattle.std.proofs.Common.{arith}
use Rattle.interference.proofs.PutBack.{removed-past}
use Rattle.interference.proofs.held.remove_at.Goals as goal

pub returns-then-count-len : goal.returns-then-count-len
returns-then-count-len c = removed-past c.args.part.now.items c.args.count (omega arith)
