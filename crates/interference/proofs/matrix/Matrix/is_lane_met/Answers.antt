use Rattle.std.proofs.Common.{◌≡◌, ◌<◌, ◌+◌, List, length, drop, sym, ap, ◌∙◌, arith}
use Rattle.std.specs.Prelude.{slice_get, flat_map}
use Rattle.std.specs.List.{list_any}
use Rattle.live_lanes.specs.declared.row.Cell.{Cell}
use Rattle.live_lanes.specs.Entered.{cells_of}
use Rattle.interference.specs.Clashes.{Points, is_held_at, cell_points, some_cell_points, lane_points}
use Rattle.interference.proofs.Points.{cells-step, step-none, step-found}
use Rattle.interference.proofs.matrix.Matrix.is_lane_met.Goals as goal

pub returns-then-is_cell_met : goal.returns-then-is_cell_met
returns-then-is_cell_met c = λ ordered.
    let m = c.args.self.now in
    let slots = m.live.table.order.slots in
    let cells : List Cell = cells_of m.live.table.rows.rows.items c.in-Some.lane in
    let k = c.cells.place in
    let lt : k < length cells = let e : c.cell_count-place-end.result ≡ length cells = c.cell_count-place-end.ensures in omega arith in
    let rest : List Points = flat_map (cell_points slots c.args.unit) (drop k cells) in
    let more : List Points = flat_map (cell_points slots c.args.unit) (drop (k + 1) cells) in
    let here : List Points = some_cell_points slots c.args.unit (slice_get cells k) in
    let step = cells-step slots c.args.unit cells k lt in
    step-found (is_held_at m c.args.v) rest here more (list_any (is_held_at m c.args.v) (flat_map (cell_points slots c.args.unit) cells)) step (sym (c.is_cell_met.ensures ordered) ∙ c.if-is_cell_met.true) (c.cells.invariant ordered)
    ∙ ap (λ n. list_any (is_held_at m c.args.v) (lane_points m.live.table c.args.unit n)) c.in-Some.ensures

pub cells-preserved : goal.cells-preserved
cells-preserved c = λ ordered.
    let m = c.args.self.now in
    let slots = m.live.table.order.slots in
    let cells : List Cell = cells_of m.live.table.rows.rows.items c.in-Some.lane in
    let k = c.cells.place in
    let lt : k < length cells = let e : c.cell_count-place-end.result ≡ length cells = c.cell_count-place-end.ensures in omega arith in
    let rest : List Points = flat_map (cell_points slots c.args.unit) (drop k cells) in
    let more : List Points = flat_map (cell_points slots c.args.unit) (drop (k + 1) cells) in
    let here : List Points = some_cell_points slots c.args.unit (slice_get cells k) in
    let step = cells-step slots c.args.unit cells k lt in
    step-none (is_held_at m c.args.v) rest here more (list_any (is_held_at m c.args.v) (flat_map (cell_points slots c.args.unit) cells)) step (sym (c.is_cell_met.ensures ordered) ∙ c.if-is_cell_met.false) (c.cells.invariant ordered)
