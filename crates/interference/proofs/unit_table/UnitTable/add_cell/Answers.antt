use Rattle.std.proofs.Common.{◌<◌, Option, length, refl, arith}
use Rattle.std.specs.Prelude.{slice_get}
use Rattle.std.specs.Vec.{with_item}
use Rattle.live_lanes.specs.declared.row.Cell.{Cell}
use Rattle.live_lanes.specs.Table.{Numbers}
use Rattle.live_lanes.specs.Entered.{cells_of}
use Rattle.live_lanes.specs.Extents.{some_extents}
use Rattle.interference.specs.declared.unit_table.UnitExtents.{UnitExtents}
use Rattle.interference.specs.declared.unit_table.UnitTable.{UnitTable}
use Rattle.interference.specs.Listed.{IsBegun, IsFilled}
use Rattle.interference.proofs.Refused.{on-err}
use Rattle.interference.proofs.Thinned.{table-changed, cell-some}
use Rattle.interference.proofs.unit_table.UnitTable.add_cell.Goals as goal

pub returns-in_err-add_in-clause-err : goal.returns-in_err-add_in-clause-err
returns-in_err-add_in-clause-err c =
    let slots : Numbers = c.args.live.now.table.order.slots in
    let old = c.args.self.now in
    let o : Option Cell = slice_get (cells_of c.args.live.now.table.rows.rows.items c.args.lane) c.args.place in
    let row : UnitExtents = record { blocks = c.add_in.new.lists } in
    let new : UnitTable = record { units = with_item old.units c.args.unit row } in
    let lt : c.args.unit < length old.units.items = omega arith in
    on-err c.from_residual.result (cell-some (IsBegun slots c.args.range) c.args.unit c.in-Some.block o old new c.in-Some.ensures
    (table-changed (IsBegun slots c.args.range (some_extents o)) old new c.args.unit c.in-Some.block c.index_mut.result.now row lt c.index_mut.ensures.value refl c.in_err-add_in.ensures.err))

pub returns-clause-ok : goal.returns-clause-ok
returns-clause-ok c =
    let slots : Numbers = c.args.live.now.table.order.slots in
    let old = c.args.self.now in
    let o : Option Cell = slice_get (cells_of c.args.live.now.table.rows.rows.items c.args.lane) c.args.place in
    let row : UnitExtents = record { blocks = c.add_in.new.lists } in
    let new : UnitTable = record { units = with_item old.units c.args.unit row } in
    let lt : c.args.unit < length old.units.items = omega arith in
    cell-some (IsFilled slots c.args.range) c.args.unit c.in-Some.block o old new c.in-Some.ensures
    (table-changed (IsFilled slots c.args.range (some_extents o)) old new c.args.unit c.in-Some.block c.index_mut.result.now row lt c.index_mut.ensures.value refl c.in_ok-add_in.ensures.ok)
