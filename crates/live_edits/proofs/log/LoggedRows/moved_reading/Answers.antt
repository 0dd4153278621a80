use Rattle.std.proofs.Common.{rules, ◌∙◌}
use borrow.Author.Tests.{tests}
use Rattle.std.proofs.lemmas.Iterator.{YieldsList-from_slice}
use Rattle.std.proofs.lemmas.Iterator.Search.{find_from_yields_List}
use Rattle.live_edits.specs.Leading.{moves_on}
use Rattle.live_edits.proofs.AskFound.{copied-is}
use Rattle.live_edits.proofs.log.LoggedRows.moved_reading.Goals as goal

pub returns : goal.returns
returns c = λ rise. copied-is c.find.result ∙ find_from_yields_List (moves_on c.args.order.now.slots c.args.self.now.rows.rows.items c.args.block) _ _ c.find.result c.find.ensures.ran (YieldsList-from_slice c.args.readings.now cc) (λ x b q k. search (rules, tests))
