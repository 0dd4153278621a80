use Rattle.std.proofs.Common.{◌≡◌, ◌<◌, ◌+◌, ◌*◌, List, true, length, drop, sym, ap, ◌∙◌, subst, arith}
use Rattle.std.specs.Prelude.{not, ◌||◌, slice_get, flat_map}
use Rattle.std.specs.List.{list_any}
use Rattle.live_lanes.specs.declared.row.Cell.{Cell}
use Rattle.live_lanes.specs.Entered.{cells_of}
use Rattle.interference.specs.Clashes.{Points, is_fixed_at, are_taken, cell_points, some_cell_points, lane_points}
use Rattle.interference.specs.Marked.{is_marked}
use Rattle.interference.proofs.Points.{cells-step, step-none, step-found, step-marked, from-not, from-no}
use Rattle.interference.proofs.matrix.Matrix.mark_lane.Goals as goal

pub returns-then-not-mark_cell-clause-fixed : goal.returns-then-not-mark_cell-clause-fixed
returns-then-not-mark_cell-clause-fixed c = λ ordered.
    let m = c.args.self.now in
    let slots = m.live.table.order.slots in
    let cells : List Cell = cells_of m.live.table.rows.rows.items c.in-Some.lane in
    let k = c.cells.place in
    let lt : k < length cells = let e : c.cell_count-place-end.result ≡ length cells = c.cell_count-place-end.ensures in omega arith in
    let rest : List Points = flat_map (cell_points slots c.args.unit) (drop k cells) in
    let more : List Points = flat_map (cell_points slots c.args.unit) (drop (k + 1) cells) in
    let here : List Points = some_cell_points slots c.args.unit (slice_get cells k) in
    let step = cells-step slots c.args.unit cells k lt in
    let fixed : list_any (is_fixed_at m) here ≡ true = from-no (list_any (is_fixed_at m) here) (sym (c.mark_cell.ensures.fixed ordered) ∙ c.if-not-mark_cell.true) in
    ap not (step-found (is_fixed_at m) rest here more (list_any (is_fixed_at m) (flat_map (cell_points slots c.args.unit) cells)) step fixed (c.cells.invariant.fixed ordered)
    ∙ ap (λ n. list_any (is_fixed_at m) (lane_points m.live.table c.args.unit n)) c.in-Some.ensures)

pub cells-preserved : goal.cells-preserved
cells-preserved c =
    let m = c.args.self.now in
    let slots = m.live.table.order.slots in
    let cells : List Cell = cells_of m.live.table.rows.rows.items c.in-Some.lane in
    let k = c.cells.place in
    let lt : k < length cells = let e : c.cell_count-place-end.result ≡ length cells = c.cell_count-place-end.ensures in omega arith in
    let rest : List Points = flat_map (cell_points slots c.args.unit) (drop k cells) in
    let more : List Points = flat_map (cell_points slots c.args.unit) (drop (k + 1) cells) in
    let here : List Points = some_cell_points slots c.args.unit (slice_get cells k) in
    let step = cells-step slots c.args.unit cells k lt in
    record {
      room = c.mark_cell.ensures.room ∙ c.cells.invariant.room;
      fixed = λ ordered.
          step-none (is_fixed_at m) rest here more (list_any (is_fixed_at m) (flat_map (cell_points slots c.args.unit) cells)) step (from-not (list_any (is_fixed_at m) here) (sym (c.mark_cell.ensures.fixed ordered) ∙ c.if-not-mark_cell.false)) (c.cells.invariant.fixed ordered);
      marked = λ ordered n low.
          step-marked m c.args.v n rest here more (is_marked c.cells.marks.words.items n) (is_marked c.mark_cell.new.marks.words.items n) (are_taken m c.args.v (flat_map (cell_points slots c.args.unit) cells) n || is_marked c.args.marks.now.words.items n) step
          (c.mark_cell.ensures.marked ordered c.if-not-mark_cell.false n (subst (λ x. n < x * 64) (sym c.cells.invariant.room) low)) (c.cells.invariant.marked ordered n low);
    }
