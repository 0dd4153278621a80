use Rattle.std.proofs.Common.{◌≡◌, ◌<◌, ◌≤◌, ◌+◌, List, length, drop, sym, ap, ◌∙◌, arith}
use Rattle.std.specs.Prelude.{slice_get, flat_map}
use Rattle.live_lanes.specs.declared.row.Cell.{Cell}
use Rattle.live_lanes.specs.Entered.{cells_of}
use Rattle.interference.specs.Clashes.{Points, are_taken, cell_points, some_cell_points, lane_points}
use Rattle.interference.proofs.Points.{cells-step, cells-end, step-way, clear-way, clear-none}
use Rattle.interference.proofs.matrix.Matrix.clasher_of_lane.Goals as goal

pub returns-in-Some : goal.returns-in-Some
returns-in-Some c = λ ordered.
    let m = c.args.self.now in
    let slots = m.live.table.order.slots in
    let cells : List Cell = cells_of m.live.table.rows.rows.items c.in_ok-lane.lane in
    let k = c.cells.place in
    let lt : k < length cells = let e : c.cell_count-place-end.result ≡ length cells = c.cell_count-place-end.ensures in omega arith in
    let rest : List Points = flat_map (cell_points slots c.args.unit) (drop k cells) in
    let more : List Points = flat_map (cell_points slots c.args.unit) (drop (k + 1) cells) in
    let here : List Points = some_cell_points slots c.args.unit (slice_get cells k) in
    let step = cells-step slots c.args.unit cells k lt in
    ap (λ n. are_taken m c.args.v (lane_points m.live.table c.args.unit n) c.in-Some.w) (sym c.in_ok-lane.ensures)
    ∙ sym (c.cells.invariant ordered c.in-Some.w) ∙ step-way m c.args.v c.in-Some.w rest here more step (c.in-Some.ensures ordered)

pub cells-preserved : goal.cells-preserved
cells-preserved c = λ ordered n.
    let m = c.args.self.now in
    let slots = m.live.table.order.slots in
    let cells : List Cell = cells_of m.live.table.rows.rows.items c.in_ok-lane.lane in
    let k = c.cells.place in
    let lt : k < length cells = let e : c.cell_count-place-end.result ≡ length cells = c.cell_count-place-end.ensures in omega arith in
    let rest : List Points = flat_map (cell_points slots c.args.unit) (drop k cells) in
    let more : List Points = flat_map (cell_points slots c.args.unit) (drop (k + 1) cells) in
    let here : List Points = some_cell_points slots c.args.unit (slice_get cells k) in
    let step = cells-step slots c.args.unit cells k lt in
    sym (clear-way m c.args.v n rest here more step (c.in_default.ensures ordered n)) ∙ c.cells.invariant ordered n

pub returns : goal.returns
returns c = λ ordered n.
    let m = c.args.self.now in
    let slots = m.live.table.order.slots in
    let cells : List Cell = cells_of m.live.table.rows.rows.items c.in_ok-lane.lane in
    let le : length cells ≤ c.cells.place = let e : c.cell_count-place-end.result ≡ length cells = c.cell_count-place-end.ensures in omega arith in
    ap (λ l. are_taken m c.args.v (lane_points m.live.table c.args.unit l) n) (sym c.in_ok-lane.ensures)
    ∙ sym (c.cells.invariant ordered n) ∙ ap (λ ps. are_taken m c.args.v ps n) (cells-end slots c.args.unit cells c.cells.place le) ∙ clear-none m c.args.v n
