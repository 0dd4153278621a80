use Rattle.std.proofs.Common.{arith, ◌<◌, ◌≤◌, length}
use Rattle.live_lanes.proofs.Homes.{settles-set, settles-past}
use Rattle.live_lanes.proofs.order.Order.settle.Goals as goal

pub returns-then-at-len-clause-homes : goal.returns-then-at-len-clause-homes
returns-then-at-len-clause-homes c =
    let homes = c.args.self.now.block_of in
    let within : c.args.id < length homes.items = omega (arith, homes.ok.0, c.len.ensures, c.if-at-len.true) in
    settles-set homes.items c.args.id c.args.position within

pub returns-else-at-len-clause-homes : goal.returns-else-at-len-clause-homes
returns-else-at-len-clause-homes c =
    let homes = c.args.self.now.block_of in
    let past : length homes.items ≤ c.args.id = omega (arith, homes.ok.0, c.len.ensures, c.if-at-len.false) in
    settles-past homes.items c.args.id c.args.position past
