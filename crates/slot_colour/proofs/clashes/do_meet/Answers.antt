use Rattle.std.proofs.Common.{◌≡◌, ◌<◌, ◌+◌, List, length, drop, sym, ap, ◌∙◌, arith}
use Rattle.std.specs.Prelude.{slice_get, flat_map}
use Rattle.live_lanes.specs.declared.row.Cell.{Cell}
use Rattle.live_lanes.specs.Entered.{cells_of}
use Rattle.interference.specs.Clashes.{Points, cell_points, some_cell_points}
use Rattle.interference.proofs.Points.{cells-step, step-none, step-found}
use Rattle.slot_colour.specs.Clashes.{is_met_at, do_meet}
use Rattle.slot_colour.proofs.clashes.do_meet.Goals as goal

pub returns-then-is_met_in : goal.returns-then-is_met_in
returns-then-is_met_in c = λ ordered.
    let x = c.args.live.now.table in
    let slots = x.order.slots in
    let cells : List Cell = cells_of x.rows.rows.items c.args.one in
    let k = c.cells.place in
    let lt : k < length cells = let e : c.cell_count-place-end.result ≡ length cells = c.cell_count-place-end.ensures in omega arith in
    let rest : List Points = flat_map (cell_points slots c.args.other) (drop k cells) in
    let more : List Points = flat_map (cell_points slots c.args.other) (drop (k + 1) cells) in
    let here : List Points = some_cell_points slots c.args.other (slice_get cells k) in
    let step = cells-step slots c.args.other cells k lt in
    step-found (is_met_at x c.args.other) rest here more (do_meet x c.args.one c.args.other) step (sym (c.is_met_in.ensures ordered) ∙ c.if-is_met_in.true) (c.cells.invariant ordered)

pub cells-preserved : goal.cells-preserved
cells-preserved c = λ ordered.
    let x = c.args.live.now.table in
    let slots = x.order.slots in
    let cells : List Cell = cells_of x.rows.rows.items c.args.one in
    let k = c.cells.place in
    let lt : k < length cells = let e : c.cell_count-place-end.result ≡ length cells = c.cell_count-place-end.ensures in omega arith in
    let rest : List Points = flat_map (cell_points slots c.args.other) (drop k cells) in
    let more : List Points = flat_map (cell_points slots c.args.other) (drop (k + 1) cells) in
    let here : List Points = some_cell_points slots c.args.other (slice_get cells k) in
    let step = cells-step slots c.args.other cells k lt in
    step-none (is_met_at x c.args.other) rest here more (do_meet x c.args.one c.args.other) step (sym (c.is_met_in.ensures ordered) ∙ c.if-is_met_in.false) (c.cells.invariant ordered)
