use Rattle.std.proofs.Common.{◌≡◌, ◌++◌, drop}
use Rattle.std.specs.List.{flat_map}
use Rattle.ra_top.specs.Report.Run.Printed.{lane_word}
use Rattle.ra_top.proofs.report.run.put_lanes.Given as goal

abbrev pub invariant-loop-lane : goal.invariant-loop-lane
invariant-loop-lane l = l.out ++ flat_map lane_word (drop l.lane-index l.lanes) ≡ l.initial.out ++ flat_map lane_word l.lanes
