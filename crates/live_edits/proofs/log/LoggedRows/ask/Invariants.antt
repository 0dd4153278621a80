use Rattle.std.proofs.Common.{take}
use Rattle.live_lanes.specs.Lasting.{AllRise}
use Rattle.live_edits.specs.Updated.{AsksFor}
use Rattle.live_edits.proofs.log.LoggedRows.ask.Given as goal

abbrev pub invariant-pieces : goal.invariant-pieces
invariant-pieces l = AllRise l.order.slots l.self.rows.rows.items → AsksFor l.order.slots l.flow l.self.rows.rows.items (take l.spot-index l.pieces) l.fn.reasons.items l.reasons.items
