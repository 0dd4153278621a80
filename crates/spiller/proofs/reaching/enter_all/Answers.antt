use Rattle.std.proofs.Common.{arith}
use Rattle.spiller.proofs.Walking.{spread-more}
use Rattle.spiller.proofs.reaching.enter_all.Goals as goal

pub nexts-preserved : goal.nexts-preserved
nexts-preserved c = spread-more c.args.starts.now.items c.nexts.starts.items c.enter.new.starts.items c.args.work.now.items c.nexts.work.items c.enter.new.work.items c.args.nexts.now c.nexts.next-index (omega arith) c.nexts.invariant c.in_ok-enter.ensures
