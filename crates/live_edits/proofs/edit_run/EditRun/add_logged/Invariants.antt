use Rattle.std.proofs.Common.{take}
use Rattle.mir_meaning.specs.Paths.{Among}
use Rattle.live_lanes.specs.declared.ask.extent.ChangedPiece.{ChangedPiece}
use Rattle.live_edits.specs.Told.{HasNamed}
use Rattle.live_edits.proofs.edit_run.EditRun.add_logged.Given as goal

abbrev pub invariant-log : goal.invariant-log
invariant-log l = record {
  kept : (p : ChangedPiece) → Among p l.fn.pieces.items → Among p l.pieces.items;
  named : HasNamed l.self.rows.rows.rows.items (take l.former-index l.former-items) l.pieces.items;
}
