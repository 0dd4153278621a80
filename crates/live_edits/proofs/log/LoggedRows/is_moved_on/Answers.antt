use Rattle.live_edits.proofs.AskFound.{moved-on}
use Rattle.live_edits.proofs.log.LoggedRows.is_moved_on.Goals as goal

pub returns-in-Some : goal.returns-in-Some
returns-in-Some c = λ rise. moved-on c.args.order.now.slots c.args.self.now.rows.rows.items c.args.block c.args.reading.now c.in-Some.lane c.is_live_after.result c.in-Some.is (c.is_live_after.ensures rise)
