use Rattle.live_lanes.specs.Growth.{KeepsBlocks}
use Rattle.live_lanes.specs.Lasting.{AllRise}
use Rattle.live_lanes.specs.Marks.{KeepsCauses}
use Rattle.live_lanes.proofs.Gives.{SomeCellsEnded}
use Rattle.live_lanes.proofs.table.LaneRanges.end_row.Given as goal

abbrev pub invariant-cells : goal.invariant-cells
invariant-cells l = record {
  keeps : KeepsCauses l.fn.self.rows.items l.self.rows.items;
  blocks : KeepsBlocks l.fn.self.rows.items l.self.rows.items;
  ended : AllRise l.order.slots l.fn.self.rows.items → SomeCellsEnded l.order.slots l.flow l.fn.self.rows.items l.self.rows.items l.lane l.place;
}
