use Rattle.std.proofs.Common.{◌≡◌}
use Rattle.std.specs.Prelude.{slice_get}
use Rattle.std.specs.List.{list_any}
use Rattle.live_lanes.specs.Entered.{cells_of}
use Rattle.live_lanes.specs.Looks.{InOrder}
use Rattle.interference.proofs.Points.{pieces_from}
use Rattle.slot_colour.specs.Clashes.{is_met_at, is_met_in}
use Rattle.slot_colour.proofs.clashes.is_met_in.Given as goal

-- what is left meets the other lane where all does
abbrev pub invariant-pieces : goal.invariant-pieces
invariant-pieces l = InOrder l.live.table → list_any (is_met_at l.live.table l.other) (pieces_from l.live.table.order.slots l.other (slice_get (cells_of l.live.table.rows.rows.items l.one) l.place) l.index) ≡ is_met_in l.live.table l.other (slice_get (cells_of l.live.table.rows.rows.items l.one) l.place)
