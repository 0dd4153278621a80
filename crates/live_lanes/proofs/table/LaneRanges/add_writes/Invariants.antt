use Rattle.std.proofs.Common.{take}
use Rattle.live_lanes.specs.Entering.{Enters, enter_all, write_entered}
use Rattle.live_lanes.proofs.table.LaneRanges.add_writes.Given as goal

abbrev pub invariant-writes : goal.invariant-writes
invariant-writes l = Enters l.fn.self.rows.items l.self.rows.items (λ m b v. enter_all (write_entered l.block l.id m b) (take l.w-index l.writes) v)
