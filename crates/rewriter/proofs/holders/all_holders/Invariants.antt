use Rattle.std.proofs.Common.{drop}
use Rattle.rewriter.proofs.HolderLists.{AreHoldersBut}
use Rattle.rewriter.proofs.holders.all_holders.Given as goal

abbrev pub invariant-regs : goal.invariant-regs
invariant-regs l = AreHoldersBut l.target l.rs (drop l.k l.rs) l.made
