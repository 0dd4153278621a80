use Rattle.std.proofs.Common.{take}
use Rattle.live_lanes.specs.Entering.{Enters, enter_all, move_entered}
use Rattle.live_lanes.proofs.table.LaneRanges.add_moves.Given as goal

abbrev pub invariant-writes : goal.invariant-writes
invariant-writes l = Enters l.fn.self.rows.items l.self.rows.items (λ m b v. enter_all (move_entered l.block l.id m b) (take l.w-index l.writes) v)
