use Rattle.std.specs.Ordering.{nat_cmp}
use Rattle.std.specs.BTreeMap.{get}
use Rattle.live_lanes.proofs.Flowing.{IsNoted}
use Rattle.live_lanes.proofs.compute.flow.flow_of.Given as goal

abbrev pub invariant-positions : goal.invariant-positions
invariant-positions l = IsNoted l.target (get nat_cmp l.order.positions) l.func.blocks l.flow.items l.at
