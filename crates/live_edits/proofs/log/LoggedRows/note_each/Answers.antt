use Rattle.std.proofs.Common.{◌<◌, ◌≤◌, ◌∙◌, length, refl, arith}
use Rattle.live_lanes.specs.Entered.{rows_seen}
use Rattle.live_edits.proofs.Logged.{logged-same, logged-then}
use Rattle.live_edits.proofs.RenoteRows.{notes-more, notes-over}
use Rattle.live_edits.proofs.log.LoggedRows.note_each.Goals as goal

pub notes-init : goal.notes-init
notes-init c = record { lanes = refl; logged = logged-same c.args.self.now; others = λ l b e. refl; rest = λ w r. r }

pub notes-preserved : goal.notes-preserved
notes-preserved c =
    let within : c.notes.each-index < length c.args.notes.now = omega arith in
    let one = c.in_ok-note.ensures.noted in
    record {
      lanes = c.note.ensures.lanes ∙ c.notes.invariant.lanes;
      logged = logged-then c.args.self.now c.notes.self c.note.new.self c.notes.invariant.logged c.note.ensures.logged;
      others = λ l b e. one.others l b e ∙ c.notes.invariant.others l b e;
      rest = λ w r. c.notes.invariant.rest w (notes-more c.args.slots.now c.args.notes.now c.notes.each-index _ _ _ w within one.own r);
    }

pub returns-in_err-note-clause-logged : goal.returns-in_err-note-clause-logged
returns-in_err-note-clause-logged c = logged-then c.args.self.now c.notes.self c.note.new.self c.notes.invariant.logged c.note.ensures.logged

pub returns-clause-noted : goal.returns-clause-noted
returns-clause-noted c =
    let past : length c.args.notes.now ≤ c.notes.each-index = omega arith in
    record {
      own = c.notes.invariant.rest (rows_seen c.notes.self.rows.rows.items c.args.spot.lane c.args.spot.block) (notes-over c.args.slots.now c.args.notes.now c.notes.each-index _ past);
      others = c.notes.invariant.others;
      lanes = c.notes.invariant.lanes;
    }
