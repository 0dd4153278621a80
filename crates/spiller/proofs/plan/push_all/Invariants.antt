use Rattle.std.proofs.Common.{◌≡◌, ◌++◌}
use Rattle.std.specs.Prelude.{take}
use Rattle.spiller.proofs.plan.push_all.Given as goal

-- what stood there, and the operands so far
abbrev pub invariant-others : goal.invariant-others
invariant-others l = l.operands ≡ l.fn.operands ++ take l.operand-index l.others
