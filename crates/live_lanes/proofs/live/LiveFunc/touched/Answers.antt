use Rattle.live_lanes.proofs.Touching.{touched-found}
use Rattle.live_lanes.proofs.live.LiveFunc.touched.Goals as goal

pub returns : goal.returns
returns c = touched-found c.args.self.now.table c.args.v c.of_range.result.first c.of_range.result.count _ _ c.in_order.result.items c.new.ensures.items c.of_range.ensures c.in_ok-meet_lanes.ensures c.in_order.ensures.named c.in_order.ensures.order
