use Rattle.std.proofs.Common.{◌≡◌, ◌++◌, flat_map, take}
use Rattle.std.specs.Prelude.{zip}
use Rattle.instr_effects.specs.Runs.{run_numbers, one_move, one_kept}
use Rattle.instr_effects.proofs.run.move_lanes.Given as goal

abbrev pub invariant-lanes : goal.invariant-lanes
invariant-lanes l = record {
  reads : l.effects.reads.items ≡ l.fn.effects.reads.items ++ flat_map one_kept (take l.k (zip (run_numbers l.to) (run_numbers l.from)));
  writes : l.effects.writes.items ≡ l.fn.effects.writes.items ++ flat_map (one_move l.early) (take l.k (zip (run_numbers l.to) (run_numbers l.from)));
}
