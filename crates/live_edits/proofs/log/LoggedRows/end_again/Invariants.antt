use Rattle.std.proofs.Common.{take}
use Rattle.live_lanes.specs.Lasting.{AllRise}
use Rattle.live_edits.specs.Logged.{LogsLives}
use Rattle.live_edits.specs.Pieces.{nodes_of}
use Rattle.live_edits.specs.Updated.{EndsAgain}
use Rattle.live_edits.proofs.log.LoggedRows.end_again.Given as goal

abbrev pub invariant-pieces : goal.invariant-pieces
invariant-pieces l = record {
  ended : AllRise l.order.slots l.fn.self.rows.rows.items → EndsAgain l.order.slots l.flow l.fn.self.rows.rows.items l.self.rows.rows.items (nodes_of (take l.spot-index l.pieces));
  logged : LogsLives l.fn.self l.self;
}
