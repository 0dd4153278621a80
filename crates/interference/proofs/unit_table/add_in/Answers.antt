use Rattle.std.proofs.Common.{◌<◌, Option, length, arith}
use Rattle.std.specs.Prelude.{slice_get}
use Rattle.live_lanes.specs.declared.row.Cell.{Cell}
use Rattle.live_lanes.specs.Entered.{cells_of}
use Rattle.live_lanes.specs.Extents.{some_extents}
use Rattle.interference.specs.Listed.{IsBegun, IsFilled}
use Rattle.interference.proofs.Refused.{on-err}
use Rattle.interference.proofs.Thinned.{row-changed}
use Rattle.interference.proofs.unit_table.add_in.Goals as goal

pub returns-in_err-add_extents-clause-err : goal.returns-in_err-add_extents-clause-err
returns-in_err-add_extents-clause-err c =
    let ls = c.args.lists.now.items in
    let o : Option Cell = slice_get (cells_of c.args.live.now.table.rows.rows.items c.args.lane) c.args.place in
    let lt : c.args.block < length ls = omega arith in
    on-err c.from_residual.result (row-changed (IsBegun c.args.live.now.table.order.slots c.args.range (some_extents o)) ls c.args.block c.index_mut.result.now c.add_extents.new.list lt c.index_mut.ensures.value c.in_err-add_extents.ensures.err)

pub returns-clause-ok : goal.returns-clause-ok
returns-clause-ok c =
    let ls = c.args.lists.now.items in
    let o : Option Cell = slice_get (cells_of c.args.live.now.table.rows.rows.items c.args.lane) c.args.place in
    let lt : c.args.block < length ls = omega arith in
    row-changed (IsFilled c.args.live.now.table.order.slots c.args.range (some_extents o)) ls c.args.block c.index_mut.result.now c.add_extents.new.list lt c.index_mut.ensures.value c.in_ok-add_extents.ensures.ok
