use Rattle.std.proofs.Common.{◌∙◌, ap}
use Rattle.std.proofs.lemmas.Result.{on_ok_weaker}
use Rattle.live_lanes.specs.Table.{seen_cell}
use Rattle.live_edits.specs.RemadeSteps.{def_of_write}
use Rattle.live_edits.specs.Renoted.{NotesWriting}
use Rattle.live_edits.proofs.RenoteRows.{one-so, seen-or}
use Rattle.live_edits.proofs.Logged.{logged-same}
use Rattle.live_edits.proofs.log.LoggedRows.note_write.Goals as goal

pub returns-in_err-changes-clause-logged : goal.returns-in_err-changes-clause-logged
returns-in_err-changes-clause-logged c = logged-same c.args.self.now

pub returns-clause-noted : goal.returns-clause-noted
returns-clause-noted c =
    let cell = seen_cell c.unwrap_or-cell.result.now in
    let own = ap (λ o. seen_cell o.now) c.unwrap_or-cell.ensures ∙ (seen-or c.cell_near-found.result _ c.new-empty.ensures.unseen ∙ c.cell_near-found.ensures) in
    on_ok_weaker c.change_all.result (one-so c.args.self.now.rows.rows.items c.change_all.new.self.rows.rows.items c.args.spot.lane c.args.spot.block c.in_ok-changes.changes cell (λ l. NotesWriting c.args.slots.now c.args.id (def_of_write l c.args.write)) own c.in_ok-changes.ensures) c.change_all.ensures.changed
