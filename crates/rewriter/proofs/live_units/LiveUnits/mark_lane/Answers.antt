use Rattle.std.proofs.Common.{arith}
use Rattle.live_lanes.specs.Entered.{cells_of}
use Rattle.rewriter.proofs.Marked.{cells_more, cells_all}
use Rattle.rewriter.proofs.live_units.LiveUnits.mark_lane.Goals as goal

pub cells-init : goal.cells-init
cells-init c y m = m

pub cells-preserved : goal.cells-preserved
cells-preserved c y m = c.cells.invariant y (cells_more (cells_of c.args.live.now.table.rows.rows.items c.args.lane) c.cells.place c.args.u.0 _ _ y (omega arith) c.mark_cell.ensures m)

pub returns : goal.returns
returns c = cells_all c.args.live.now.table c.args.lane c.args.u.0 c.cells.place _ _ (omega arith) c.cells.invariant
