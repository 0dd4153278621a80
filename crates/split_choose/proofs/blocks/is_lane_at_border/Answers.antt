use Rattle.std.proofs.Common.{◌≤◌, length, arith}
use Rattle.live_lanes.specs.Entered.{cells_of}
use Rattle.split_choose.specs.Blocks.{at_border}
use Rattle.split_choose.proofs.Borders.{cell_next, cell_found, cell_none}
use Rattle.split_choose.proofs.blocks.is_lane_at_border.Goals as goal

pub returns-then-is_cell_at_border : goal.returns-then-is_cell_at_border
returns-then-is_cell_at_border c order = cell_found (at_border c.args.live.now.table c.args.live.now.func.blocks c.args.v) (cells_of c.args.live.now.table.rows.rows.items c.args.lane) c.cells.place _ (c.is_cell_at_border.ensures order) c.if-is_cell_at_border.true

pub cells-preserved : goal.cells-preserved
cells-preserved c order = cell_next (at_border c.args.live.now.table c.args.live.now.func.blocks c.args.v) (cells_of c.args.live.now.table.rows.rows.items c.args.lane) c.cells.place _ (c.is_cell_at_border.ensures order) c.if-is_cell_at_border.false (c.cells.invariant order)

pub returns : goal.returns
returns c order =
    let h : length (cells_of c.args.live.now.table.rows.rows.items c.args.lane) ≤ c.cells.place = omega arith in
    cell_none (at_border c.args.live.now.table c.args.live.now.func.blocks c.args.v) (cells_of c.args.live.now.table.rows.rows.items c.args.lane) c.cells.place h (c.cells.invariant order)
