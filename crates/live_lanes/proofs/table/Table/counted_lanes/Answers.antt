use Rattle.std.proofs.Common.{◌≡◌, ◌<◌, ◌≤◌, ◌+◌, ℕ, length, subst, arith}
use Rattle.live_lanes.proofs.Alike.{counted-alike}
use Rattle.live_lanes.proofs.table.Table.counted_lanes.Goals as goal

pub returns : goal.returns
returns c = λ b at. counted-alike c.args.self.now.order.slots c.args.self.now.rows.rows.items c.args.own.first b at c.args.own.count (omega (arith, c.if-own-le1.false)) (λ k w. c.are_lanes_alike.ensures c.if-not-are_lanes_alike.false k b w)
