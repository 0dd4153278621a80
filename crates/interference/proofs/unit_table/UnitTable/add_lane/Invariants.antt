use Rattle.std.proofs.Common.{take, Some}
use Rattle.live_lanes.specs.Entered.{cells_of}
use Rattle.interference.specs.Listed.{LaneHasRoom, Fills}
use Rattle.interference.proofs.Lanes.{with_cells}
use Rattle.interference.proofs.unit_table.UnitTable.add_lane.Given as goal

-- what the cells that are gone through have is put in
abbrev pub invariant-cells : goal.invariant-cells
invariant-cells l = LaneHasRoom l.live.table l.range l.unit (Some l.number) l.fn.self → Fills l.live.table.order.slots l.range (with_cells l.live.table l.range l.unit (take l.place (cells_of l.live.table.rows.rows.items l.number)) l.fn.self) l.fn.self l.self
