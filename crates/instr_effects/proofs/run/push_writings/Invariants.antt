use Rattle.std.proofs.Common.{◌≡◌, ◌++◌, flat_map, take}
use Rattle.instr_effects.specs.Runs.{run_numbers, one_writing}
use Rattle.instr_effects.proofs.run.push_writings.Given as goal

abbrev pub invariant-lanes : goal.invariant-lanes
invariant-lanes l = l.writes.items ≡ l.fn.writes.items ++ flat_map (one_writing l.early) (take l.k (run_numbers l.run))
