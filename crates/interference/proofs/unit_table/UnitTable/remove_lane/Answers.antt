use Rattle.std.proofs.Common.{◌≡◌, ◌≤◌, ◌+◌, List, [], ◌++◌, None, Some, cond, take, length, refl, sym, ap, ◌∙◌, subst, ℕ, Option, arith}
use Rattle.std.specs.Prelude.{nat_eq, slice_get}
use Rattle.live_lanes.specs.declared.row.Cell.{Cell}
use Rattle.live_lanes.specs.Entered.{cells_of}
use Rattle.interference.specs.Listed.{lane_extents, lane_lots, Thins}
use Rattle.interference.proofs.Lots.{thins-none, thins-both, thins-same, thin-cell, cell_lots, cells_lots, cells-wide, cells-all, lots-none}
use Rattle.interference.proofs.unit_table.UnitTable.remove_lane.Goals as goal

pub returns-in_default : goal.returns-in_default
returns-in_default c =
    let e : c.args.lane ≡ None = cc in
    thins-same c.args.live.now.table.order.slots c.args.range (λ more. more) (lane_lots c.args.live.now.table c.args.unit c.args.lane) c.args.self.now c.args.self.now
    (λ more u b. ap (λ q. cond (nat_eq c.args.unit u) (lane_extents c.args.live.now.table q b) [] ++ more u b) e ∙ lots-none c.args.unit more u b) (thins-none c.args.live.now.table.order.slots c.args.range c.args.self.now)

pub cells-init : goal.cells-init
cells-init c = thins-same c.args.live.now.table.order.slots c.args.range (λ more. more) (cells_lots c.args.unit (take 0 (cells_of c.args.live.now.table.rows.rows.items c.in-Some.number))) c.args.self.now c.args.self.now (lots-none c.args.unit) (thins-none c.args.live.now.table.order.slots c.args.range c.args.self.now)

pub cells-preserved : goal.cells-preserved
cells-preserved c =
    let slots = c.args.live.now.table.order.slots in
    let v = c.args.range in
    let cells : List Cell = cells_of c.args.live.now.table.rows.rows.items c.in-Some.number in
    let i = c.cells.place in
    thins-both slots v (cells_lots c.args.unit (take i cells)) (cell_lots c.args.unit (slice_get cells i)) (cells_lots c.args.unit (take (i + 1) cells)) c.args.self.now c.cells.self c.remove_cell.new.self
    (cells-wide c.args.unit cells i (slice_get cells i) refl) c.cells.invariant (thin-cell slots v c.args.unit (slice_get cells i) c.cells.self c.remove_cell.new.self c.remove_cell.ensures)

pub returns : goal.returns
returns c =
    let x = c.args.live.now.table in
    let cells : List Cell = cells_of x.rows.rows.items c.in-Some.number in
    let long : length cells ≤ c.cells.place = let e : c.cell_count-place-end.result ≡ length cells = c.cell_count-place-end.ensures in omega arith in
    let is : c.args.lane ≡ Some c.in-Some.number = cc in
    subst (λ (q : Option ℕ). Thins x.order.slots c.args.range (lane_lots x c.args.unit q) c.args.self.now c.cells.self) (sym is)
    (thins-same x.order.slots c.args.range (cells_lots c.args.unit (take c.cells.place cells)) (lane_lots x c.args.unit (Some c.in-Some.number)) c.args.self.now c.cells.self (cells-all x c.args.unit c.in-Some.number c.cells.place long) c.cells.invariant)
