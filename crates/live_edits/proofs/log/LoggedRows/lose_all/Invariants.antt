use Rattle.std.proofs.Common.{◌++◌, take}
use Rattle.live_edits.specs.Fallen.{spots_of, LosesAll}
use Rattle.live_edits.specs.Logged.{LogsLives}
use Rattle.live_edits.specs.Pieces.{HasAll, KeepsPieces}
use Rattle.live_edits.proofs.log.LoggedRows.lose_all.Given as goal

abbrev pub invariant-needs : goal.invariant-needs
invariant-needs l = record {
  loses : LosesAll l.fn.self.rows.rows.items l.self.rows.rows.items (take l.need-index l.needs) l.fn.fallen.items l.fallen.items;
  around : HasAll l.around.spots.items (l.fn.around.spots.items ++ spots_of (take l.need-index l.needs));
  pieces : KeepsPieces l.fn.self.rows.rows.items l.self.rows.rows.items;
  logged : LogsLives l.fn.self l.self;
}
