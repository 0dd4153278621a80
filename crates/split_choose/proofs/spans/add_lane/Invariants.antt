use Rattle.std.proofs.Common.{◌≡◌, map, take}
use Rattle.live_lanes.specs.Entered.{cells_of}
use Rattle.split_choose.specs.Built.{Rise, told, with_stretches, cells_stretches}
use Rattle.split_choose.proofs.spans.add_lane.Given as goal

abbrev pub invariant-cells : goal.invariant-cells
invariant-cells l = Rise l.initial.spans → map told l.spans ≡ map (with_stretches (cells_stretches l.live.table.order.slots (take l.place (cells_of l.live.table.rows.rows.items l.lane)))) (map told l.initial.spans)
