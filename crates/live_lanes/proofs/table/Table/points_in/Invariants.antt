use Rattle.std.proofs.Common.{◌≡◌, ◌-◌, ◌&&◌}
use Rattle.std.specs.Prelude.{nat_lt}
use Rattle.live_lanes.specs.Looks.{InOrder}
use Rattle.live_lanes.specs.Ordered.{ids_of, AreRising}
use Rattle.live_lanes.specs.Held.{any_held, passing}
use Rattle.live_lanes.proofs.table.Table.points_in.Given as goal

abbrev pub invariant-spans : goal.invariant-spans
invariant-spans l =
    InOrder l.self → AreRising l.self.order.slots 0 (ids_of l.instrs)
    → l.count ≡ passing l.self.order.slots (λ x. nat_lt x l.at && any_held l.self.order.slots l.self.rows.rows.items l.own.first l.own.count l.block x) (ids_of l.instrs)

abbrev pub decreases-spans : goal.decreases-spans
decreases-spans l = 340282366920938463463374607431768211455 - l.at
