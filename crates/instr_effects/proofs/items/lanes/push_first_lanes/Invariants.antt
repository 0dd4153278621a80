use Rattle.std.proofs.Common.{◌≡◌, ◌++◌, ◌-◌, map}
use Rattle.meaning.specs.declared.types.Lane.TheVariants.{VirtualLane}
use Rattle.mir_meaning.specs.Registers.{numbers}
use Rattle.instr_effects.proofs.items.lanes.push_first_lanes.Given as goal

abbrev pub invariant-loop-k : goal.invariant-loop-k
invariant-loop-k l = l.out ++ map (VirtualLane l.v) (numbers l.k (l.count - l.k)) ≡ l.initial.out ++ map (VirtualLane l.v) (numbers 0 l.count)
