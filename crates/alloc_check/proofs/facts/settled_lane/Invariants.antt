use Rattle.std.proofs.Common.{◌≡◌, drop}
use Rattle.meaning.specs.Lanes.{filled}
use Rattle.alloc_check.proofs.facts.settled_lane.Given as goal

abbrev pub invariant-loop-w : goal.invariant-loop-w
invariant-loop-w l = filled (drop l.w-index l.writes) l.lane ≡ filled l.writes l.lane
