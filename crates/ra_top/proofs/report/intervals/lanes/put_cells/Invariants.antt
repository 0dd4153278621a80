use Rattle.std.proofs.Common.{◌≡◌, ◌++◌, ◌-◌, length, take}
use Rattle.std.specs.List.{flat_map}
use Rattle.live_lanes.specs.Entered.{cells_of}
use Rattle.interval_laws.specs.Told.{cells_segments}
use Rattle.ra_top.specs.Report.Intervals.Lines.{segment_text}
use Rattle.ra_top.proofs.report.intervals.lanes.put_cells.Given as goal

abbrev pub invariant-cells : goal.invariant-cells
invariant-cells l =
    let cells = cells_of l.live.table.rows.rows.items l.lane in
    let slots = l.live.table.order.slots in
    l.out ++ flat_map segment_text (cells_segments slots l.live.func.blocks (take (length cells - l.back) cells)) ≡ l.fn.out ++ flat_map segment_text (cells_segments slots l.live.func.blocks cells)
