use Rattle.live_edits.specs.Logged.{LogsLives}
use Rattle.live_edits.specs.Pieces.{KeepsPieces}
use Rattle.live_edits.proofs.FallLoop.{FallsSome}
use Rattle.live_edits.proofs.log.LoggedRows.fall.Given as goal

abbrev pub invariant-fallen : goal.invariant-fallen
invariant-fallen l = record {
  falls : FallsSome l.order.slots l.flow l.fn.self.rows.rows.items l.self.rows.rows.items l.k l.fn.fallen.items l.fallen.items l.fn.around.spots.items l.around.spots.items;
  pieces : KeepsPieces l.fn.self.rows.rows.items l.self.rows.rows.items;
  logged : LogsLives l.fn.self l.self;
}
