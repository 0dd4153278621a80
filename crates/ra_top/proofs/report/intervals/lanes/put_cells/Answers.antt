use Rattle.std.proofs.Common.{◌≡◌, ◌++◌, ◌-◌, ◌∙◌, length, ap, sym, arith}
use Rattle.std.specs.Prelude.{slice_get}
use Rattle.std.specs.List.{flat_map}
use Rattle.live_lanes.specs.Entered.{cells_of}
use Rattle.ra_top.specs.Report.Intervals.Lines.{segment_text}
use Rattle.ra_top.specs.Report.Intervals.Told.{place_segments}
use Rattle.ra_top.proofs.ReportLemmas.Intervals.Rows.{cells-more, cells-all, cells-none}
use Rattle.ra_top.proofs.report.intervals.lanes.put_cells.Goals as goal

pub cells-init : goal.cells-init
cells-init c =
    let live = c.args.live.now in
    let cells = cells_of live.table.rows.rows.items c.args.lane in
    ap (λ ls. c.args.out.now ++ ls) (cells-all live.table.order.slots live.func.blocks cells)

pub cells-preserved : goal.cells-preserved
cells-preserved c =
    let live = c.args.live.now in
    let cells = cells_of live.table.rows.rows.items c.args.lane in
    let count = c.cell_count-count.ensures in
    let said : c.put_cell.new.out ≡ c.cells.out ++ flat_map segment_text (place_segments live.table.order.slots live.func.blocks (slice_get cells (length cells - 1 - c.cells.back))) =
    c.in_ok-put_cell.ensures ∙ ap (λ n. c.cells.out ++ flat_map segment_text (place_segments live.table.order.slots live.func.blocks (slice_get cells (n - 1 - c.cells.back)))) count in
    cells-more live.table.order.slots live.func.blocks cells c.cells.back c.cells.out c.put_cell.new.out (omega (arith, count)) said ∙ c.cells.invariant

pub returns : goal.returns
returns c =
    let live = c.args.live.now in
    let cells = cells_of live.table.rows.rows.items c.args.lane in
    let count = c.cell_count-count.ensures in
    sym (cells-none live.table.order.slots live.func.blocks cells c.cells.back c.cells.out (omega (arith, count))) ∙ c.cells.invariant
