use Rattle.std.proofs.Common.{◌≡◌, ◌++◌, map, take}
use Rattle.live_lanes.specs.Entered.{cells_of}
use Rattle.split_choose.proofs.spans.add_positions.Given as goal

abbrev pub invariant-cells : goal.invariant-cells
invariant-cells l = l.positions.items ≡ l.initial.positions.items ++ map (λ c. c.block) (take l.place (cells_of l.live.table.rows.rows.items l.lane))
