use Rattle.live_lanes.specs.Lasting.{AllRise}
use Rattle.live_lanes.specs.Marks.{KeepsCauses}
use Rattle.live_lanes.proofs.Gives.{SomeLanesEnded}
use Rattle.live_lanes.proofs.table.LaneRanges.end_all.Given as goal

abbrev pub invariant-rows : goal.invariant-rows
invariant-rows l = record {
  keeps : KeepsCauses l.fn.self.rows.items l.self.rows.items;
  ended : AllRise l.order.slots l.fn.self.rows.items → SomeLanesEnded l.order.slots l.flow l.fn.self.rows.items l.self.rows.items l.lane;
}
