use Rattle.std.proofs.Common.{take}
use Rattle.mir_meaning.specs.Paths.{Among}
use Rattle.live_lanes.specs.declared.ask.extent.ChangedPiece.{ChangedPiece}
use Rattle.live_edits.specs.Told.{HasWrittenIn}
use Rattle.live_edits.proofs.changed.add_begun.Given as goal

abbrev pub invariant-notes : goal.invariant-notes
invariant-notes l = record {
  kept : (p : ChangedPiece) → Among p l.fn.pieces.items → Among p l.pieces.items;
  written : HasWrittenIn l.cell.lane l.cell.block (take l.note-index l.note-items) l.pieces.items;
}
