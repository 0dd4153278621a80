use Rattle.std.proofs.lemmas.Result.{on_ok_weaker}
use Rattle.live_edits.specs.RemadeSteps.{use_of_read, def_of_write}
use Rattle.live_edits.specs.Renoted.{NotesReading, NotesWriting, NotesSeen}
use Rattle.live_edits.proofs.Logged.{logged-then}
use Rattle.live_edits.proofs.RenoteRows.{one-then}
use Rattle.live_edits.proofs.RenoteSteps.{note-seen}
use Rattle.live_edits.proofs.log.LoggedRows.note.Goals as goal

pub returns-clause-noted : goal.returns-clause-noted
returns-clause-noted c =
    let slots = c.args.slots.now in
    let note = c.args.note in
    on_ok_weaker c.note_write.result (λ q. one-then c.args.self.now.rows.rows.items c.note_read.new.self.rows.rows.items c.note_write.new.self.rows.rows.items c.args.spot.lane c.args.spot.block (NotesReading slots note.id (use_of_read note.act.read)) (NotesWriting slots note.id (def_of_write note.act.lane note.act.write)) (NotesSeen slots note) (λ v u w. note-seen slots note v u w) c.in_ok-note_read.ensures.noted (q note.act.lane)) c.note_write.ensures.noted

pub returns-clause-logged : goal.returns-clause-logged
returns-clause-logged c = logged-then c.args.self.now c.note_read.new.self c.note_write.new.self c.note_read.ensures.logged c.note_write.ensures.logged
