use Rattle.std.proofs.Common.{◌≡◌, ◌<◌, ◌≤◌, ℕ, List, Option, None, Some, length, sym, subst, arith}
use Rattle.live_lanes.specs.declared.row.Cell.{Cell}
use Rattle.live_lanes.specs.Entered.{cells_of}
use Rattle.interference.specs.Listed.{LaneHasRoom, with_lane, Begins, Fills}
use Rattle.interference.proofs.Lanes.{fills-none, fills-cell, begins-cell, fills-all, fills-no-lane}
use Rattle.interference.proofs.Refused.{on-err}
use Rattle.interference.proofs.unit_table.UnitTable.add_lane.Goals as goal

pub cells-init : goal.cells-init
cells-init c = λ room. fills-none c.args.live.now.table c.args.range c.args.unit c.args.self.now room.sorted

pub cells-preserved : goal.cells-preserved
cells-preserved c = λ room.
    let x = c.args.live.now.table in
    let cells : List Cell = cells_of x.rows.rows.items c.in-Some.number in
    let lt : c.cells.place < length cells = let e : c.cell_count-place-end.result ≡ length cells = c.cell_count-place-end.ensures in omega arith in
    fills-cell x c.args.range c.args.unit c.in-Some.number c.args.self.now c.cells.self c.add_cell.new.self c.cells.place lt room (c.cells.invariant room) c.in_ok-add_cell.ensures.ok

pub returns-in_err-add_cell-clause-err : goal.returns-in_err-add_cell-clause-err
returns-in_err-add_cell-clause-err c = λ given.
    let x = c.args.live.now.table in
    let cells : List Cell = cells_of x.rows.rows.items c.in-Some.number in
    let lt : c.cells.place < length cells = let e : c.cell_count-place-end.result ≡ length cells = c.cell_count-place-end.ensures in omega arith in
    let is : c.args.lane ≡ Some c.in-Some.number = cc in
    let room = subst (λ (q : Option ℕ). LaneHasRoom x c.args.range c.args.unit q c.args.self.now) is given in
    on-err c.from_residual.result (subst (λ (q : Option ℕ). Begins x.order.slots c.args.range (with_lane x c.args.range c.args.unit q c.args.self.now) c.args.self.now c.add_cell.new.self) (sym is)
    (begins-cell x c.args.range c.args.unit c.in-Some.number c.args.self.now c.cells.self c.add_cell.new.self c.cells.place lt room (c.cells.invariant room) c.in_err-add_cell.ensures.err))

pub returns-clause-ok : goal.returns-clause-ok
returns-clause-ok c = λ given.
    let x = c.args.live.now.table in
    let cells : List Cell = cells_of x.rows.rows.items c.in-Some.number in
    let long : length cells ≤ c.cells.place = let e : c.cell_count-place-end.result ≡ length cells = c.cell_count-place-end.ensures in omega arith in
    let is : c.args.lane ≡ Some c.in-Some.number = cc in
    let room = subst (λ (q : Option ℕ). LaneHasRoom x c.args.range c.args.unit q c.args.self.now) is given in
    subst (λ (q : Option ℕ). Fills x.order.slots c.args.range (with_lane x c.args.range c.args.unit q c.args.self.now) c.args.self.now c.cells.self) (sym is)
    (fills-all x c.args.range c.args.unit c.in-Some.number c.cells.place c.args.self.now c.cells.self long (c.cells.invariant room))

pub returns-in_default-clause-ok : goal.returns-in_default-clause-ok
returns-in_default-clause-ok c = λ given.
    let x = c.args.live.now.table in
    let is : c.args.lane ≡ None = cc in
    subst (λ (q : Option ℕ). Fills x.order.slots c.args.range (with_lane x c.args.range c.args.unit q c.args.self.now) c.args.self.now c.args.self.now) (sym is)
    (fills-no-lane x c.args.range c.args.unit c.args.self.now given.sorted)
