use Rattle.std.proofs.Common.{take}
use Rattle.live_lanes.specs.Entered.{cells_of}
use Rattle.interference.specs.Listed.{Thins}
use Rattle.interference.proofs.Lots.{cells_lots}
use Rattle.interference.proofs.unit_table.UnitTable.remove_lane.Given as goal

-- what the cells that are gone through have is taken out
abbrev pub invariant-cells : goal.invariant-cells
invariant-cells l = Thins l.live.table.order.slots l.range (cells_lots l.unit (take l.place (cells_of l.live.table.rows.rows.items l.number))) l.fn.self l.self
