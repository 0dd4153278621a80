use Rattle.std.proofs.Common.{take}
use Rattle.std.specs.Ordering.{nat_cmp}
use Rattle.std.specs.BTreeMap.{get}
use Rattle.live_lanes.specs.Flowing.{AreOut}
use Rattle.live_lanes.proofs.compute.flow.ways_out.Given as goal

abbrev pub invariant-blocks-2 : goal.invariant-blocks-2
invariant-blocks-2 l = AreOut l.target (get nat_cmp l.order.positions) (take l.block-index l.blocks) l.flow.items
