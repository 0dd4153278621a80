use Rattle.std.proofs.Common.{◌≡◌, take, true}
use Rattle.std.specs.List.{list_all}
use Rattle.interference.specs.Clashes.{IsOrdered}
use Rattle.live_lanes.specs.declared.ask.extent.Stretch.{Stretch}
use Rattle.split_choose.specs.Clearing.{cut, is_part_clear}
use Rattle.split_choose.proofs.runs.is_free_along.Given as goal

abbrev pub invariant-stretches : goal.invariant-stretches
invariant-stretches l = IsOrdered l.view.m.now
    → list_all (λ (s : Stretch). is_part_clear l.view.m.now l.view.v l.fn.register l.position (cut l.between.first l.between.last s)) (take l.stretch-index l.stretches) ≡ true
