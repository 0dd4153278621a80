use Rattle.std.proofs.Common.{◌≡◌, length}
use Rattle.mir_meaning.specs.Rules.{phi_pairs}
use Rattle.machine_verify.proofs.operands.phi_pairs.Given as goal

abbrev pub invariant-pairs : goal.invariant-pairs
invariant-pairs l = phi_pairs l.operands ≡ phi_pairs l.rest

abbrev pub decreases-pairs : goal.decreases-pairs
decreases-pairs l = length l.rest
