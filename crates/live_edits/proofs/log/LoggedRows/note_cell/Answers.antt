use Rattle.std.proofs.Common.{◌≤◌, length, arith}
use Rattle.std.proofs.lemmas.Result.{on_ok_weaker}
use Rattle.live_edits.proofs.Logged.{logged-same}
use Rattle.live_edits.proofs.CellsRemade.{past-one, one-cell}
use Rattle.live_edits.proofs.log.LoggedRows.note_cell.Goals as goal

pub returns-then-notes-len-clause-noted : goal.returns-then-notes-len-clause-noted
returns-then-notes-len-clause-noted c =
    let rows = c.args.self.now.rows.rows in
    let past : length rows.items ≤ c.args.notes.now.lane = omega (arith, rows.ok.0, c.len.ensures, c.if-notes-len.true) in
    past-one c.args.slots.now rows.items c.args.notes.now past

pub returns-then-notes-len-clause-logged : goal.returns-then-notes-len-clause-logged
returns-then-notes-len-clause-logged c = logged-same c.args.self.now

pub returns-clause-noted : goal.returns-clause-noted
returns-clause-noted c =
    on_ok_weaker c.note_each.result (one-cell c.args.slots.now c.args.self.now.rows.rows.items c.note_each.new.self.rows.rows.items c.args.notes.now c.as_slice.result.now c.as_slice.ensures.value) c.note_each.ensures.noted
