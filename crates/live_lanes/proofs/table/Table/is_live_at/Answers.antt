use Rattle.std.proofs.Common.{◌≡◌, ap, ◌∙◌}
use Rattle.live_lanes.specs.Table.{rises_from, seen_cell}
use Rattle.live_lanes.specs.Reach.{seen_at}
use Rattle.live_lanes.specs.Entered.{rows_seen}
use Rattle.live_lanes.proofs.table.Table.is_live_at.Goals as goal

pub returns-in-Some : goal.returns-in-Some
returns-in-Some c = λ r.
    let slots = c.args.self.now.order.slots in
    let seen : seen_cell c.in-Some.cell.now ≡ rows_seen c.args.self.now.rows.rows.items c.args.lane c.args.block = c.in-Some.ensures in
    c.is_live_at.ensures (ap (λ w. rises_from slots 0 w.segments) seen ∙ r c.args.lane c.args.block) ∙ ap (λ w. seen_at slots w c.args.at) seen
