use Rattle.live_lanes.specs.Touching.{Meets, names_lane, some_below}
use Rattle.live_lanes.proofs.ask.touch.TouchList.meet_lanes.Given as goal

abbrev pub invariant-lanes : goal.invariant-lanes
invariant-lanes l = Meets l.table.order.slots l.initial.self l.self (λ x. some_below (names_lane x l.table.rows.rows.items) l.own.first l.k)
