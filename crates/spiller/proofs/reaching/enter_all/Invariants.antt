use Rattle.std.proofs.Common.{take}
use Rattle.spiller.specs.Walks.{Spreads}
use Rattle.spiller.proofs.reaching.enter_all.Given as goal

abbrev pub invariant-nexts : goal.invariant-nexts
invariant-nexts l = Spreads l.fn.starts.items l.fn.work.items l.starts.items l.work.items (take l.next-index l.nexts)
