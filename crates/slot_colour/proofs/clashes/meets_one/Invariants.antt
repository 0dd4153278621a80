use Rattle.live_lanes.specs.Looks.{InOrder}
use Rattle.slot_colour.specs.Clashes.{do_meet}
use Rattle.slot_colour.proofs.Meeting.{LeftOf}
use Rattle.slot_colour.proofs.clashes.meets_one.Given as goal

abbrev pub invariant-lanes : goal.invariant-lanes
invariant-lanes l = InOrder l.live.table → LeftOf (do_meet l.live.table l.one) l.others.first l.others.count l.k
