use Rattle.std.proofs.Common.{◌≡◌, ◌++◌, map, drop}
use Rattle.target_base.specs.Storage.{widths}
use Rattle.std.specs.Prelude.{slice_index}
use Rattle.instr_effects.proofs.items.lanes.push_picked_widths.Given as goal

abbrev pub invariant-loop-k : goal.invariant-loop-k
invariant-loop-k l = l.out ++ map (slice_index (widths l.units l.us)) (drop l.k-index l.lanes) ≡ l.initial.out ++ map (slice_index (widths l.units l.us)) l.lanes
