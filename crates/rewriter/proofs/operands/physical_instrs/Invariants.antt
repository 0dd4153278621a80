use Rattle.std.proofs.Common.{◌≡◌, ◌++◌, drop}
use Rattle.rewriter.specs.Physical.{physical_instrs}
use Rattle.rewriter.proofs.operands.physical_instrs.Given as goal

abbrev pub invariant-each : goal.invariant-each
invariant-each l = l.made.items ++ physical_instrs l.target l.registers (drop l.i-index l.instrs) ≡ physical_instrs l.target l.registers l.instrs
