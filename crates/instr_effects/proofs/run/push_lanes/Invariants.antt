use Rattle.std.proofs.Common.{◌≡◌, ◌++◌, flat_map, take}
use Rattle.instr_effects.specs.Runs.{run_numbers, one_lane}
use Rattle.instr_effects.proofs.run.push_lanes.Given as goal

abbrev pub invariant-lanes : goal.invariant-lanes
invariant-lanes l = l.lanes.items ≡ l.fn.lanes.items ++ flat_map one_lane (take l.k (run_numbers l.run))
