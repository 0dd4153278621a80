use Rattle.std.proofs.Common.{◌≡◌, ℕ}
use Rattle.std.specs.Prelude.{slice_get}
use Rattle.live_lanes.specs.Entered.{cells_of}
use Rattle.interference.specs.Clashes.{IsOrdered, are_taken, some_cell_points}
use Rattle.interference.proofs.Points.{pieces_from}
use Rattle.interference.proofs.matrix.Matrix.clasher_in_cell.Given as goal

-- what is in the way of all is in that of what is left
abbrev pub invariant-pieces : goal.invariant-pieces
invariant-pieces l = IsOrdered l.self → (w : ℕ) → are_taken l.self l.v (pieces_from l.self.live.table.order.slots l.unit (slice_get (cells_of l.self.live.table.rows.rows.items l.lane) l.place) l.index) w ≡ are_taken l.self l.v (some_cell_points l.self.live.table.order.slots l.unit (slice_get (cells_of l.self.live.table.rows.rows.items l.lane) l.place)) w
