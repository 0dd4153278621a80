use Rattle.std.proofs.Common.{take}
use Rattle.std.specs.Prelude.{flat_map, filter_map}
use Rattle.mir_func.specs.declared.func.Instr.{Instr}
use Rattle.mir_func.specs.Binding.{as_slot}
use Rattle.spiller.proofs.NumbersTaken.{Adds}
use Rattle.spiller.proofs.slot_map.add_instrs.Given as goal

abbrev pub invariant-instrs : goal.invariant-instrs
invariant-instrs l = Adds l.fn.taken.keys (flat_map (λ (i : Instr). filter_map as_slot i.operands) (take l.instr-index l.instrs)) l.taken.keys
