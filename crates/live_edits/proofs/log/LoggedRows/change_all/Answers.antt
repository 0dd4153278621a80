use Rattle.live_edits.proofs.Logged.{logged-then}
use Rattle.live_edits.proofs.log.LoggedRows.change_all.Goals as goal

pub returns-clause-logged : goal.returns-clause-logged
returns-clause-logged c = logged-then c.args.self.now c.change_maybe.new.self c.change_maybe-2.new.self c.change_maybe.ensures.logged c.change_maybe-2.ensures.logged
