use Rattle.std.proofs.Common.{take}
use Rattle.live_lanes.specs.Entering.{Enters, enter_all, last_entered}
use Rattle.live_lanes.proofs.table.LaneRanges.read_all_last.Given as goal

abbrev pub invariant-lanes : goal.invariant-lanes
invariant-lanes l = Enters l.fn.self.rows.items l.self.rows.items (λ m b v. enter_all (last_entered l.block m b) (take l.lane-index l.lanes) v)
