use Rattle.std.proofs.Common.{◌≡◌, ◌++◌, map, drop}
use Rattle.meaning.specs.declared.types.Lane.TheVariants.{VirtualLane}
use Rattle.instr_effects.proofs.items.lanes.push_picked_lanes.Given as goal

abbrev pub invariant-loop-k : goal.invariant-loop-k
invariant-loop-k l = l.out ++ map (VirtualLane l.v) (drop l.k-index l.lanes) ≡ l.initial.out ++ map (VirtualLane l.v) l.lanes
