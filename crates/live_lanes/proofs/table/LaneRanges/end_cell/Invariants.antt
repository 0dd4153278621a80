use Rattle.live_lanes.specs.Growth.{KeepsBlocks}
use Rattle.live_lanes.specs.Lasting.{AllRise}
use Rattle.live_lanes.specs.Marks.{KeepsCauses}
use Rattle.live_lanes.proofs.Gives.{SomeEnded}
use Rattle.live_lanes.proofs.table.LaneRanges.end_cell.Given as goal

abbrev pub invariant-pieces : goal.invariant-pieces
invariant-pieces l = record {
  keeps : KeepsCauses l.fn.self.rows.items l.self.rows.items;
  blocks : KeepsBlocks l.fn.self.rows.items l.self.rows.items;
  ended : AllRise l.order.slots l.fn.self.rows.items → SomeEnded l.order.slots l.flow l.fn.self.rows.items l.self.rows.items l.lane l.place l.index;
}
