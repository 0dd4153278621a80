use Rattle.std.proofs.Common.{arith, get_or, refl}
use Rattle.live_lanes.proofs.Basics.{none-among}
use Rattle.live_lanes.proofs.Exits.{predecessors-more, predecessors-all}
use Rattle.live_lanes.proofs.Growth.{grew-refl}
use Rattle.live_lanes.proofs.table.LaneRanges.raise_predecessors.Goals as goal

pub predecessors-init : goal.predecessors-init
predecessors-init c = λ code t live. record { grew = grew-refl code c.args.self.now.rows.items c.args.risen.now.items; exits = λ b a. absurd (none-among b a) }

pub predecessors-preserved : goal.predecessors-preserved
predecessors-preserved c = λ code t live.
    let ps = c.predecessors-before-items.result.now in
    let k = c.predecessors.before-index in
    predecessors-more code c.args.order.now.slots c.args.flow.now c.args.self.now.rows.items c.predecessors.self.rows.items c.raise_exits.new.self.rows.items c.args.piece.lane c.args.piece.block ps c.terminators-ids.result.now k (get_or ps k 0) c.args.risen.now.items c.predecessors.risen.items c.raise_exits.new.risen.items t live c.predecessors-before-items.ensures (omega arith) refl c.terminators-ids.ensures (c.predecessors.invariant code t live) c.in_ok-raise_exits.ensures

pub returns : goal.returns
returns c = λ code t live.
    predecessors-all code c.args.order.now.slots c.args.flow.now c.args.self.now.rows.items c.predecessors.self.rows.items c.args.piece.lane c.args.piece.block c.predecessors-before-items.result.now c.predecessors.before-index c.args.risen.now.items c.predecessors.risen.items t c.predecessors-before-items.ensures (omega arith) (c.predecessors.invariant code t live)
