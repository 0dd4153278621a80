use Rattle.std.proofs.Common.{vec_len}
use Rattle.live_edits.specs.Logged.{HasAllCells}
use Rattle.live_edits.proofs.TakenBack.{LeadsBack}
use Rattle.live_edits.proofs.log.LoggedRows.take_back.Given as goal

-- what is left of the log leads back to the rows that all of it leads to
abbrev pub invariant-changes : goal.invariant-changes
invariant-changes l = HasAllCells l.fn.self.rows.rows.items l.fn.self.log.items → LeadsBack l.fn.self.rows.rows.items l.self.rows.rows.items l.fn.self.log.items l.self.log.items

abbrev pub decreases-changes : goal.decreases-changes
decreases-changes l = vec_len l.self.log
