use Rattle.std.proofs.Common.{◌≡◌, map}
use Rattle.split_choose.specs.Built.{Rise, told, with_stretches, range_stretches}
use Rattle.split_choose.proofs.spans.add_lanes.Given as goal

abbrev pub invariant-lanes : goal.invariant-lanes
invariant-lanes l = Rise l.initial.spans → map told l.spans ≡ map (with_stretches (range_stretches l.live.table l.v l.k)) (map told l.initial.spans)
