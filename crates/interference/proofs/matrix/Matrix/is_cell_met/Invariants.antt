use Rattle.std.proofs.Common.{◌≡◌}
use Rattle.std.specs.Prelude.{slice_get}
use Rattle.std.specs.List.{list_any}
use Rattle.live_lanes.specs.Entered.{cells_of}
use Rattle.interference.specs.Clashes.{IsOrdered, is_held_at, some_cell_points}
use Rattle.interference.proofs.Points.{pieces_from}
use Rattle.interference.proofs.matrix.Matrix.is_cell_met.Given as goal

-- what is left is held where all is
abbrev pub invariant-pieces : goal.invariant-pieces
invariant-pieces l = IsOrdered l.self → list_any (is_held_at l.self l.v) (pieces_from l.self.live.table.order.slots l.unit (slice_get (cells_of l.self.live.table.rows.rows.items l.lane) l.place) l.index) ≡ list_any (is_held_at l.self l.v) (some_cell_points l.self.live.table.order.slots l.unit (slice_get (cells_of l.self.live.table.rows.rows.items l.lane) l.place))
