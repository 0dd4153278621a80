use Rattle.live_edits.specs.Logged.{LogsLives}
use Rattle.live_edits.specs.Pieces.{KeepsPieces}
use Rattle.live_edits.proofs.RiseRuns.{SomeRisen}
use Rattle.live_edits.proofs.log.LoggedRows.rise.Given as goal

abbrev pub invariant-risen : goal.invariant-risen
invariant-risen l = record {
  some : SomeRisen l.order.slots l.flow l.fn.self.rows.rows.items l.self.rows.rows.items l.reasons l.k l.risen.items l.fn.around.spots.items l.around.spots.items;
  pieces : KeepsPieces l.fn.self.rows.rows.items l.self.rows.rows.items;
  logged : LogsLives l.fn.self l.self;
}
