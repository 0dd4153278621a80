use Rattle.std.proofs.Common.{arith}
use Rattle.alloc_check.proofs.Pairs.{shared-end}
use Rattle.alloc_check.proofs.rows.shared_reads.Goals as goal

pub returns-then-k-others : goal.returns-then-k-others
returns-then-k-others c = shared-end c.args.reads.now c.args.others.now c.loop-k.made c.loop-k.k (omega arith) c.loop-k.invariant
