use Rattle.std.proofs.Common.{◌≡◌, length}
use Rattle.mir_meaning.specs.Rules.{implicit_last}
use Rattle.machine_verify.proofs.operands.implicit_last.Given as goal

abbrev pub invariant-operands : goal.invariant-operands
invariant-operands l = implicit_last l.operands ≡ implicit_last l.rest

abbrev pub decreases-operands : goal.decreases-operands
decreases-operands l = length l.rest
