use Rattle.std.proofs.Common.{◌≤◌, ◌∙◌, List, length, subst, arith}
use Rattle.std.proofs.lemmas.List.{take_all}
use Rattle.live_edits.specs.declared.cells.Note.{Note}
use Rattle.live_edits.specs.Told.{HasWrittenIn}
use Rattle.live_edits.proofs.ToldPieces.{written-more}
use Rattle.live_edits.proofs.changed.add_begun.Goals as goal

pub notes-preserved : goal.notes-preserved
notes-preserved c =
    let adds = c.in_ok-add_piece.ensures in
    let cell = c.args.cell.now in
    record {
      kept = λ p m. adds.kept p (c.notes.invariant.kept p m);
      written = written-more cell.lane cell.block c.as_slice-note-items.result.now c.notes.note-index _ c.written_by.result c.notes.pieces.items c.add_piece.new.pieces.items c.notes-test.true c.written_by.ensures c.notes.invariant.written adds;
    }

pub returns-clause-written : goal.returns-clause-written
returns-clause-written c =
    let cell = c.args.cell.now in
    let notes = c.as_slice-note-items.result.now in
    let past : length notes ≤ c.notes.note-index = omega (arith, c.notes-test.false) in
    subst (λ (ns : List Note). HasWrittenIn cell.lane cell.block ns c.notes.pieces.items) (take_all c.notes.note-index notes past ∙ c.as_slice-note-items.ensures.value) c.notes.invariant.written
