use Rattle.std.proofs.Common.{◌∙◌, ap}
use Rattle.std.proofs.lemmas.Result.{on_ok_weaker}
use Rattle.live_lanes.specs.Table.{seen_cell}
use Rattle.live_edits.specs.RemadeSteps.{use_of_read}
use Rattle.live_edits.specs.Renoted.{NotesReading, reading_changed}
use Rattle.live_edits.proofs.RenoteRows.{one-is, seen-or}
use Rattle.live_edits.proofs.Logged.{logged-same}
use Rattle.live_edits.proofs.log.LoggedRows.note_read.Goals as goal

pub returns-in_err-change-clause-logged : goal.returns-in_err-change-clause-logged
returns-in_err-change-clause-logged c = logged-same c.args.self.now

pub returns-clause-noted : goal.returns-clause-noted
returns-clause-noted c =
    let cell = seen_cell c.unwrap_or-cell.result.now in
    let own = ap (λ o. seen_cell o.now) c.unwrap_or-cell.ensures ∙ (seen-or c.cell_near-found.result _ c.new-empty.ensures.unseen ∙ c.cell_near-found.ensures) in
    on_ok_weaker c.change_readings.result (one-is c.args.self.now.rows.rows.items c.change_readings.new.self.rows.rows.items c.args.spot.lane c.args.spot.block (reading_changed c.in_ok-change.change) cell (NotesReading c.args.slots.now c.args.id (use_of_read c.args.read)) own c.in_ok-change.ensures) c.change_readings.ensures.changed
