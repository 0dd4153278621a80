use Rattle.std.proofs.Common.{◌≡◌, None, drop}
use Rattle.live_lanes.specs.Entered.{causes}
use Rattle.live_lanes.specs.Lasting.{AllRise, shapes, last_with, reading_counts}
use Rattle.live_lanes.proofs.table.LaneRanges.last_entry.Given as goal

abbrev pub invariant-readings : goal.invariant-readings
invariant-readings l = AllRise l.order.slots l.self.rows.items → last_with (reading_counts l.order.slots (causes l.self.rows.items) (shapes l.self.rows.items) l.block) (drop l.k l.readings) ≡ None
