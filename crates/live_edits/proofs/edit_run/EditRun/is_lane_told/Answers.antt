use Rattle.std.proofs.Common.{◌≡◌, ◌∙◌, sym, ap}
use Rattle.std.proofs.lemmas.Option.{same_Some}
use Rattle.mir_meaning.specs.Paths.{has}
use Rattle.live_lanes.specs.Entered.{cells_of}
use Rattle.live_edits.proofs.AsideTold.{lane-told}
use Rattle.live_edits.proofs.edit_run.EditRun.is_lane_told.Goals as goal

pub returns-in-Some : goal.returns-in-Some
returns-in-Some c = λ l e h b.
    let rows = c.args.self.now.rows.rows.rows.items in
    let same : c.in-Some.lane ≡ l = same_Some c.in-Some.lane l (sym c.in-Some.is ∙ e) in
    lane-told (λ n. has n c.args.ids.now.keys) rows l c.cells.result.now (c.cells.ensures ∙ ap (cells_of rows) same) (sym c.are_cells_told.ensures ∙ h) b
