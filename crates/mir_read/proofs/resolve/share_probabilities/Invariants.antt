use Rattle.std.proofs.Common.{◌≡◌, drop}
use Rattle.mir_read.specs.Resolving.{shared}
use Rattle.mir_read.proofs.Lists.{onto}
use Rattle.mir_read.proofs.resolve.share_probabilities.Given as goal

abbrev pub invariant-loop-e : goal.invariant-loop-e
invariant-loop-e l = shared l.raw ≡ onto l.made (shared (drop l.e-index l.raw))
