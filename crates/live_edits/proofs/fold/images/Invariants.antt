use Rattle.std.proofs.Common.{◌≡◌, map, take}
use Rattle.live_edits.specs.Folded.{image}
use Rattle.live_edits.proofs.fold.images.Given as goal

abbrev pub invariant-lanes : goal.invariant-lanes
invariant-lanes l = l.made ≡ map (image l.target l.join) (take l.lane-index l.lanes)
