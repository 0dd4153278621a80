use Rattle.std.proofs.Common.{◌≡◌, take}
use Rattle.instr_effects.proofs.items.silent.lane_numbers.Given as goal

abbrev pub invariant-loop-k : goal.invariant-loop-k
invariant-loop-k l = l.made ≡ take l.k-index l.lanes
