use Rattle.live_lanes.proofs.Raised.{on-ok}
use Rattle.live_edits.proofs.NeedLists.{needs-first, needs-later}
use Rattle.live_edits.proofs.log.LoggedRows.find_needs.Goals as goal

pub returns-then-spot-eq0 : goal.returns-then-spot-eq0
returns-then-spot-eq0 c =
    let s = c.args.spot in
    on-ok c.add_exits_before.result c.add_exits_before.ensures (λ h rise. needs-first c.args.order.now.slots c.args.flow.now c.args.self.now.rows.rows.items s.lane s.block s.index c.clear.new.self.items c.add_exits_before.new.needs.items c.if-spot-eq0.true c.clear.ensures.items (h rise))

pub returns : goal.returns
returns c =
    let s = c.args.spot in
    on-ok c.add_source.result c.add_source.ensures (λ h rise. needs-later c.args.order.now.slots c.args.flow.now c.args.self.now.rows.rows.items s.lane s.block s.index c.clear.new.self.items c.add_source.new.needs.items c.if-spot-eq0.false c.clear.ensures.items (h rise))
