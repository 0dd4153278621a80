use Rattle.std.proofs.Common.{◌≡◌, ◌++◌, drop}
use Rattle.std.specs.Prelude.{flat_map}
use Rattle.mir_meaning.specs.Registers.{operand_widths}
use Rattle.instr_effects.proofs.items.results.push_all_widths.Given as goal

abbrev pub invariant-loop-o : goal.invariant-loop-o
invariant-loop-o l = l.out ++ flat_map (operand_widths l.t l.f) (drop l.o-index l.operands) ≡ l.initial.out ++ flat_map (operand_widths l.t l.f) l.operands
