use Rattle.std.proofs.Common.{take}
use Rattle.std.specs.Prelude.{flat_map, filter_map}
use Rattle.mir_func.specs.declared.func.Block.{Block}
use Rattle.mir_func.specs.declared.func.Instr.{Instr}
use Rattle.mir_func.specs.Binding.{as_slot}
use Rattle.spiller.proofs.NumbersTaken.{Adds}
use Rattle.spiller.proofs.slot_map.add_blocks.Given as goal

abbrev pub invariant-each : goal.invariant-each
invariant-each l = Adds l.fn.taken.keys (flat_map (λ (b : Block). flat_map (λ (i : Instr). filter_map as_slot i.operands) b.instrs) (take l.block-index l.blocks)) l.taken.keys
