use Rattle.std.proofs.Common.{◌<◌, ℕ, length}
use Rattle.live_lanes.specs.Looks.{InOrder}
use Rattle.live_lanes.specs.Ordered.{all_ids}
use Rattle.live_lanes.specs.Spread.{BeginsWithin, IsFirst, LaneBeginsAt}
use Rattle.live_lanes.specs.Touching.{FindsInstrs}
use Rattle.live_lanes.proofs.live.LiveFunc.first_number_in.Given as goal

abbrev pub invariant-lanes : goal.invariant-lanes
invariant-lanes l =
    InOrder l.self.table → FindsInstrs l.self.table l.self.func.blocks → BeginsWithin l.self.table l.self.func.blocks → length (all_ids l.self.func.blocks) < 18446744073709551616
    → IsFirst (λ n. (j : ℕ) × (j < l.k) × LaneBeginsAt l.self.table l.self.func.blocks l.v j l.block n) l.first
