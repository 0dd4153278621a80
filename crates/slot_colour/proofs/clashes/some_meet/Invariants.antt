use Rattle.std.specs.List.{list_any}
use Rattle.live_lanes.specs.Looks.{InOrder}
use Rattle.slot_colour.specs.Clashes.{do_meet, numbers_in}
use Rattle.slot_colour.proofs.Meeting.{LeftOf}
use Rattle.slot_colour.proofs.clashes.some_meet.Given as goal

abbrev pub invariant-lanes : goal.invariant-lanes
invariant-lanes l = InOrder l.live.table → LeftOf (λ one. list_any (do_meet l.live.table one) (numbers_in l.those)) l.these.first l.these.count l.k
