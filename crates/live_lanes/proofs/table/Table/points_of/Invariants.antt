use Rattle.std.proofs.Common.{◌≡◌, ◌<◌, ◌≤◌, ◌+◌, length}
use Rattle.live_lanes.specs.Looks.{InOrder}
use Rattle.live_lanes.specs.Held.{AreRanked, block_held, sum_below}
use Rattle.live_lanes.proofs.table.Table.points_of.Given as goal

abbrev pub invariant-layout : goal.invariant-layout
invariant-layout l = record {
  bound : l.bound ≤ length l.blocks;
  sum : InOrder l.self → AreRanked l.self.order.slots l.blocks
      → sum_below (block_held l.self l.blocks l.own.first l.own.count) (length l.blocks) < 18446744073709551616
      → l.total + sum_below (block_held l.self l.blocks l.own.first l.own.count) l.bound ≡ sum_below (block_held l.self l.blocks l.own.first l.own.count) (length l.blocks);
}

abbrev pub decreases-layout : goal.decreases-layout
decreases-layout l = l.bound
