use Rattle.std.proofs.Common.{◌<◌, ◌≤◌, length, arith}
use Rattle.live_edits.proofs.Logged.{logged-same, logged-then}
use Rattle.live_edits.proofs.CellsRemade.{each-more, each-all, all-remade}
use Rattle.live_edits.proofs.log.LoggedRows.remake_all.Goals as goal

pub cells-init : goal.cells-init
cells-init c = record { logged = logged-same c.args.self.now; rest = λ new r. r }

pub cells-preserved : goal.cells-preserved
cells-preserved c =
    let within : c.cells.notes-index < length c.args.all.now = omega arith in
    record {
      logged = logged-then c.args.self.now c.cells.self c.note_cell.new.self c.cells.invariant.logged c.note_cell.ensures.logged;
      rest = λ new r. c.cells.invariant.rest new (each-more c.args.slots.now c.cells.self.rows.rows.items c.note_cell.new.self.rows.rows.items new c.args.all.now c.cells.notes-index c.notes-item.result within c.notes-item.is c.in_ok-note_cell.ensures.noted r);
    }

pub returns-in_err-note_cell-clause-logged : goal.returns-in_err-note_cell-clause-logged
returns-in_err-note_cell-clause-logged c = logged-then c.args.self.now c.cells.self c.note_cell.new.self c.cells.invariant.logged c.note_cell.ensures.logged

pub returns-clause-remade : goal.returns-clause-remade
returns-clause-remade c =
    let past : length c.args.all.now ≤ c.cells.notes-index = omega arith in
    all-remade c.args.slots.now c.args.self.now.rows.rows.items c.cells.self.rows.rows.items c.args.all.now (c.cells.invariant.rest c.cells.self.rows.rows.items (each-all c.args.slots.now c.cells.self.rows.rows.items c.args.all.now c.cells.notes-index past))
