use Rattle.std.proofs.Common.{◌≡◌, ◌≤◌, length, arith, subst, ap}
use Rattle.std.specs.Ordering.{nat_cmp}
use Rattle.std.specs.BTreeMap.{get}
use Rattle.live_lanes.specs.Flowing.{AreOut}
use Rattle.live_lanes.proofs.Flowing.{noted-none, noted-more, noted-all}
use Rattle.live_lanes.proofs.compute.flow.flow_of.Goals as goal

pub positions-init : goal.positions-init
positions-init c =
    let viewed = ap (λ f. f.blocks) c.func.view_is in
    let sliced = c.as_slice.ensures in
    let same : c.as_slice.result.now ≡ c.args.func.now.blocks = cc in
    let place = get nat_cmp c.args.order.now.positions in
    noted-none c.args.target.now place c.args.func.now.blocks c.in_ok-flow.flow.items (subst (λ bs. AreOut c.args.target.now place bs c.in_ok-flow.flow.items) same c.in_ok-flow.ensures)

pub positions-preserved : goal.positions-preserved
positions-preserved c = noted-more c.args.target.now (get nat_cmp c.args.order.now.positions) c.args.func.now.blocks c.positions.flow.items c.note_block.new.flow.items c.positions.at c.positions.invariant c.in_ok-note_block.ensures

pub returns : goal.returns
returns c =
    let viewed = ap (λ f. f.blocks) c.func.view_is in
    let sliced = c.as_slice.ensures in
    let same : c.as_slice.result.now ≡ c.args.func.now.blocks = cc in
    let long : length c.as_slice.result.now ≡ length c.args.func.now.blocks = ap length same in
    let whole : length c.args.func.now.blocks ≤ c.positions.at = omega (arith, c.in-Ok.ensures, c.len.ensures, c.positions-test.false, c.in_ok-flow.ensures.blocks, c.in_ok-flow.flow.ok.0, long) in
    noted-all c.args.target.now (get nat_cmp c.args.order.now.positions) c.args.func.now.blocks c.positions.flow.items c.positions.at whole c.positions.invariant
