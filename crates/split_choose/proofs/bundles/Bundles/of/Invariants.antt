use Rattle.std.proofs.Common.{length}
use Rattle.live_lanes.specs.Ways.{successors}
use Rattle.split_choose.specs.Bundles.{AreEarlier, IsClosed}
use Rattle.split_choose.proofs.Joining.{JoinsBelow}
use Rattle.split_choose.proofs.bundles.Bundles.of.Given as goal

abbrev pub invariant-blocks-2 : goal.invariant-blocks-2
invariant-blocks-2 l = record {
  earlier : AreEarlier l.bundles.parents.items;
  joins : IsClosed (successors l.live.table.flow.items) (length l.live.func.blocks) → JoinsBelow (successors l.live.table.flow.items) (length l.live.func.blocks) l.bundles.parents.items l.position;
}
