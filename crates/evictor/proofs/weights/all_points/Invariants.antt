use Rattle.std.proofs.Common.{◌≡◌, ◌-◌, ◌^◌, min, take}
use Rattle.evictor.specs.Spots.{points_in}
use Rattle.evictor.proofs.weights.all_points.Given as goal

abbrev pub invariant-layout : goal.invariant-layout
invariant-layout l = l.points ≡ min (points_in (take l.b-index l.blocks)) (2 ^ 64 - 1)
