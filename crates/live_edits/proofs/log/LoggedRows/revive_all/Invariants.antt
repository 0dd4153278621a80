use Rattle.live_edits.specs.Logged.{LogsLives}
use Rattle.live_edits.specs.Pieces.{KeepsPieces}
use Rattle.live_edits.proofs.RiseSteps.{SomeRaised}
use Rattle.live_edits.proofs.log.LoggedRows.revive_all.Given as goal

abbrev pub invariant-needs : goal.invariant-needs
invariant-needs l = record {
  raised : SomeRaised l.fn.self.rows.rows.items l.self.rows.rows.items l.needs l.need-index l.fn.risen.items l.risen.items l.fn.around.spots.items l.around.spots.items;
  pieces : KeepsPieces l.fn.self.rows.rows.items l.self.rows.rows.items;
  logged : LogsLives l.fn.self l.self;
}
