use Rattle.std.proofs.Common.{map}
use Rattle.std.specs.List.{list_any}
use Rattle.live_lanes.specs.Touching.{Meets, names_cell}
use Rattle.live_lanes.proofs.ask.touch.TouchList.meet_lane.Given as goal

abbrev pub invariant-cells : goal.invariant-cells
invariant-cells l = Meets l.slots l.fn.self l.self (λ x. list_any (names_cell x) (map (λ y. y.now) l.yielded))
