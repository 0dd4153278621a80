use Rattle.std.proofs.Common.{take, [], ◌∷◌}
use Rattle.std.specs.Prelude.{flat_map, filter_map}
use Rattle.mir_func.specs.declared.func.Operand.{Operand}
use Rattle.mir_func.specs.Binding.{as_slot}
use Rattle.spiller.proofs.NumbersTaken.{Adds}
use Rattle.spiller.proofs.slot_map.add_operands.Given as goal

abbrev pub invariant-operands : goal.invariant-operands
invariant-operands l = Adds l.fn.taken.keys (flat_map (λ (o : Operand). filter_map as_slot (o ∷ [])) (take l.operand-index l.operands)) l.taken.keys
