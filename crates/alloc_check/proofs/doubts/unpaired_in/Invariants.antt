use Rattle.std.proofs.Common.{◌≡◌, drop}
use Rattle.mir_meaning.specs.Agreement.{unpaired_in}
use Rattle.alloc_check.proofs.doubts.unpaired_in.Given as goal

abbrev pub invariant-loop-k : goal.invariant-loop-k
invariant-loop-k l = unpaired_in l.t l.f l.g (drop l.k l.blocks) (drop l.k l.others) ≡ unpaired_in l.t l.f l.g l.blocks l.others
