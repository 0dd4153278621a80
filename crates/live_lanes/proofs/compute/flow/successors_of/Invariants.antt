use Rattle.std.proofs.Common.{◌≡◌, ℕ, take}
use Rattle.std.specs.Ordering.{nat_cmp}
use Rattle.std.specs.BTreeMap.{get}
use Rattle.mir_meaning.specs.Paths.{has}
use Rattle.live_lanes.specs.Flowing.{edge_places}
use Rattle.live_lanes.proofs.compute.flow.successors_of.Given as goal

abbrev pub invariant-edges : goal.invariant-edges
invariant-edges l = (x : ℕ) → has x l.found.items ≡ has x (edge_places (get nat_cmp l.order.positions) (take l.edge-index l.edges))
