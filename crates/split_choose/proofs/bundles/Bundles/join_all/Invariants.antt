use Rattle.std.proofs.Common.{length, take}
use Rattle.live_lanes.specs.Ways.{successors}
use Rattle.split_choose.specs.Bundles.{AreEarlier, IsForest, IsClosed, Joins}
use Rattle.split_choose.proofs.bundles.Bundles.join_all.Given as goal

abbrev pub invariant-successors : goal.invariant-successors
invariant-successors l = record {
  earlier : AreEarlier l.fn.self.parents.items → AreEarlier l.self.parents.items;
  joins : IsClosed (successors l.live.table.flow.items) (length l.live.func.blocks) → IsForest (successors l.live.table.flow.items) (length l.live.func.blocks) l.fn.self.parents.items
      → Joins (successors l.live.table.flow.items) (length l.live.func.blocks) l.fn.self.parents.items l.self.parents.items l.position (take l.next-index (successors l.live.table.flow.items l.position));
}
