use Rattle.std.proofs.Common.{◌≡◌, drop}
use Rattle.std.specs.Prelude.{flat_map}
use Rattle.std.specs.List.{list_any}
use Rattle.live_lanes.specs.Entered.{cells_of}
use Rattle.interference.specs.Clashes.{IsOrdered, is_held_at, cell_points}
use Rattle.interference.proofs.matrix.Matrix.is_lane_met.Given as goal

-- what is left is held where all is
abbrev pub invariant-cells : goal.invariant-cells
invariant-cells l = IsOrdered l.self → list_any (is_held_at l.self l.v) (flat_map (cell_points l.self.live.table.order.slots l.unit) (drop l.place (cells_of l.self.live.table.rows.rows.items l.lane))) ≡ list_any (is_held_at l.self l.v) (flat_map (cell_points l.self.live.table.order.slots l.unit) (cells_of l.self.live.table.rows.rows.items l.lane))
