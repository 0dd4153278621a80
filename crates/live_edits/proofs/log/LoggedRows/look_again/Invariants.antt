use Rattle.live_edits.proofs.LookedAgain.{LooksSoFar}
use Rattle.live_edits.proofs.log.LoggedRows.look_again.Given as goal

abbrev pub invariant-suspects : goal.invariant-suspects
invariant-suspects l = LooksSoFar l.ids.keys l.order.slots l.flow l.fn.self l.self l.suspects l.spot-index l.fallen.items
