use Rattle.std.proofs.Common.{sym, ◌∙◌}
use Rattle.live_edits.proofs.EndSteps.{rises-here, live-now}
use Rattle.live_edits.proofs.log.LoggedRows.end_in_cell.Goals as goal

pub returns : goal.returns
returns c = λ r.
    let slots = c.args.order.now.slots in
    let flow = c.args.flow.now in
    let rows = c.args.self.now.rows.rows.items in
    let spot = c.args.spot in
    let cell = c.args.cell.now in
    let found = sym c.requires in
    c.end_of.ensures r (rises-here slots flow rows spot.lane spot.block spot.index cell found (r spot.lane spot.block)) ∙ live-now slots flow rows spot.lane spot.block spot.index cell found c.in-Some.piece.now c.in-Some.ensures (sym c.is_live.ensures ∙ c.if-not-is_live.false)
