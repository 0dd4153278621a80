use Rattle.std.proofs.Common.{◌≡◌, ◌++◌, map, drop}
use Rattle.mir_meaning.specs.Items.{lane_width}
use Rattle.instr_effects.proofs.items.results.lane_widths.Given as goal

abbrev pub invariant-loop-l : goal.invariant-loop-l
invariant-loop-l l = l.made ++ map (lane_width l.t) (drop l.l-index l.lanes) ≡ map (lane_width l.t) l.lanes
