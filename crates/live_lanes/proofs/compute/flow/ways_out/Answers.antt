use Rattle.std.proofs.Common.{arith, subst, sym, [], take, ◌+◌}
use Rattle.std.specs.Ordering.{nat_cmp}
use Rattle.std.specs.BTreeMap.{get}
use Rattle.live_lanes.specs.Flowing.{AreOut}
use Rattle.live_lanes.proofs.Flowing.{out-none, out-more, out-all}
use Rattle.live_lanes.proofs.compute.flow.ways_out.Goals as goal

pub blocks-2-init : goal.blocks-2-init
blocks-2-init c =
    let place = get nat_cmp c.args.order.now.positions in
    subst (λ xs. AreOut c.args.target.now place [] xs) (sym c.new-flow.ensures.items) (out-none c.args.target.now place)

pub blocks-2-preserved : goal.blocks-2-preserved
blocks-2-preserved c =
    let place = get nat_cmp c.args.order.now.positions in
    let told = c.in_ok-ways_of.ensures in
    subst (λ xs. AreOut c.args.target.now place (take (c.blocks-2.block-index + 1) c.args.blocks.now) xs) (sym c.in_ok-push.ensures.items) (out-more c.args.target.now place c.args.blocks.now c.blocks-2.block-index c.blocks-2.flow.items c.block-item.result c.in_ok-ways_of.field-0 (omega arith) c.block-item.is c.blocks-2.invariant told.predecessors told.successors told.terminators)

pub returns : goal.returns
returns c = out-all c.args.target.now (get nat_cmp c.args.order.now.positions) c.args.blocks.now c.blocks-2.block-index c.blocks-2.flow.items (omega arith) c.blocks-2.invariant
