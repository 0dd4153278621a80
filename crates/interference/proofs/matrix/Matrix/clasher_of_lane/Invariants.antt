use Rattle.std.proofs.Common.{◌≡◌, ℕ, drop}
use Rattle.std.specs.Prelude.{flat_map}
use Rattle.live_lanes.specs.Entered.{cells_of}
use Rattle.interference.specs.Clashes.{IsOrdered, are_taken, cell_points}
use Rattle.interference.proofs.matrix.Matrix.clasher_of_lane.Given as goal

-- what is in the way of all is in that of what is left
abbrev pub invariant-cells : goal.invariant-cells
invariant-cells l = IsOrdered l.self → (w : ℕ) → are_taken l.self l.v (flat_map (cell_points l.self.live.table.order.slots l.unit) (drop l.place (cells_of l.self.live.table.rows.rows.items l.lane))) w ≡ are_taken l.self l.v (flat_map (cell_points l.self.live.table.order.slots l.unit) (cells_of l.self.live.table.rows.rows.items l.lane)) w
