use Rattle.std.proofs.Common.{◌≡◌, drop}
use Rattle.std.specs.Prelude.{flat_map}
use Rattle.std.specs.List.{list_any}
use Rattle.live_lanes.specs.Entered.{cells_of}
use Rattle.live_lanes.specs.Looks.{InOrder}
use Rattle.interference.specs.Clashes.{cell_points}
use Rattle.slot_colour.specs.Clashes.{is_met_at, do_meet}
use Rattle.slot_colour.proofs.clashes.do_meet.Given as goal

-- what is left meets the other lane where all does
abbrev pub invariant-cells : goal.invariant-cells
invariant-cells l = InOrder l.live.table → list_any (is_met_at l.live.table l.other) (flat_map (cell_points l.live.table.order.slots l.other) (drop l.place (cells_of l.live.table.rows.rows.items l.one))) ≡ do_meet l.live.table l.one l.other
