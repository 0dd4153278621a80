use Rattle.std.proofs.Common.{◌≡◌, take, map}
use Rattle.rewriter.specs.Physical.{physical}
use Rattle.rewriter.proofs.operands.physical_operands.Given as goal

abbrev pub invariant-each : goal.invariant-each
invariant-each l = l.made ≡ map (physical l.target l.registers) (take l.o-index l.operands)
