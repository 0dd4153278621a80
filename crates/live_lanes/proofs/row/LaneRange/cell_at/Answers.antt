use Rattle.std.proofs.Common.{arith, ◌<◌, ◌≤◌, length}
use Rattle.live_lanes.proofs.Cells.{cell-here, cell-elsewhere, cell-behind}
use Rattle.live_lanes.proofs.row.LaneRange.cell_at.Goals as goal

pub returns-then-at-len : goal.returns-then-at-len
returns-then-at-len c =
    let cells = c.args.self.now.cells in
    let past : length cells.items ≤ c.args.at = omega (arith, cells.ok.0, c.len.ensures, c.if-at-len.true) in
    cell-behind c.args.block cells.items c.args.at c.args.self.now.sorted c.requires past

pub returns-then-cell-block : goal.returns-then-cell-block
returns-then-cell-block c =
    let cells = c.args.self.now.cells in
    let within : c.args.at < length cells.items = omega (arith, cells.ok.0, c.len.ensures, c.if-at-len.false) in
    cell-elsewhere c.args.block cells.items c.args.at c.index-cell.result.now c.args.self.now.sorted c.requires within c.index-cell.ensures c.if-cell-block.true

pub returns : goal.returns
returns c =
    let cells = c.args.self.now.cells in
    let within : c.args.at < length cells.items = omega (arith, cells.ok.0, c.len.ensures, c.if-at-len.false) in
    cell-here c.args.block cells.items c.args.at c.index-cell.result.now c.args.self.now.sorted c.requires within c.index-cell.ensures c.if-cell-block.false
