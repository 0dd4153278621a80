use Rattle.std.proofs.Common.{◌≡◌, ◌++◌, drop}
use Rattle.mir_meaning.specs.Registers.{unit_lanes}
use Rattle.instr_effects.proofs.items.lanes.push_unit_lanes.Given as goal

abbrev pub invariant-loop-u : goal.invariant-loop-u
invariant-loop-u l = l.out ++ unit_lanes (drop l.u-index l.us) ≡ l.initial.out ++ unit_lanes l.us
