use Rattle.live_lanes.specs.Alike.{bounds}
use Rattle.live_lanes.specs.Table.{begun}
use Rattle.std.proofs.Common.{◌≡◌}
use Rattle.live_lanes.proofs.Alike.{Agree}
use Rattle.live_lanes.proofs.ask.size.are_all_alike.Given as goal

abbrev pub invariant-segments : goal.invariant-segments
invariant-segments l = Agree (λ x y. bounds (begun x) ≡ bounds (begun y)) l.a l.b l.k
