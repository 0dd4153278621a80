use Rattle.std.proofs.Common.{◌≡◌, ◌++◌, drop}
use Rattle.mir_meaning.specs.Items.{explicit_needs}
use Rattle.instr_effects.proofs.items.counted.explicit_needs.Given as goal

abbrev pub invariant-loop-operand : goal.invariant-loop-operand
invariant-loop-operand l = l.made ++ explicit_needs l.left (drop l.operand-index l.operands) ≡ explicit_needs l.roles l.operands
