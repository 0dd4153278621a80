use Rattle.std.proofs.Common.{◌≡◌, ◌++◌, drop}
use Rattle.mir_meaning.specs.Registers.{slot_lanes}
use Rattle.instr_effects.proofs.items.silent.slot_lanes.Given as goal

abbrev pub invariant-loop-k : goal.invariant-loop-k
invariant-loop-k l = l.made ++ slot_lanes l.s (drop l.k l.lanes) (drop l.k l.widths) ≡ slot_lanes l.s l.lanes l.widths
