use Rattle.std.proofs.Common.{◌<◌, Option, length, refl, arith}
use Rattle.std.specs.Prelude.{slice_get}
use Rattle.std.specs.Vec.{with_item}
use Rattle.live_lanes.specs.declared.row.Cell.{Cell}
use Rattle.live_lanes.specs.Table.{Numbers}
use Rattle.live_lanes.specs.Entered.{cells_of}
use Rattle.live_lanes.specs.Extents.{some_extents}
use Rattle.interference.specs.declared.unit_table.UnitExtents.{UnitExtents}
use Rattle.interference.specs.declared.unit_table.UnitTable.{UnitTable}
use Rattle.interference.specs.Listed.{IsThinned}
use Rattle.interference.proofs.Thinned.{table-changed, cell-some}
use Rattle.interference.proofs.unit_table.UnitTable.remove_cell.Goals as goal

pub returns : goal.returns
returns c =
    let slots : Numbers = c.args.live.now.table.order.slots in
    let old = c.args.self.now in
    let o : Option Cell = slice_get (cells_of c.args.live.now.table.rows.rows.items c.args.lane) c.args.place in
    let row : UnitExtents = record { blocks = c.remove_in.new.lists } in
    let new : UnitTable = record { units = with_item old.units c.args.unit row } in
    let lt : c.args.unit < length old.units.items = omega arith in
    cell-some (IsThinned slots c.args.range) c.args.unit c.in-Some.block o old new c.in-Some.ensures
    (table-changed (IsThinned slots c.args.range (some_extents o)) old new c.args.unit c.in-Some.block c.index_mut.result.now row lt c.index_mut.ensures.value refl c.remove_in.ensures)
