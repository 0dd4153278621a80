use Rattle.std.proofs.Common.{◌≡◌, arith, ap, subst, length}
use Rattle.std.specs.Ordering.{nat_cmp}
use Rattle.std.specs.BTreeMap.{get}
use Rattle.instr_effects.specs.Numbered.{number_in}
use Rattle.live_lanes.specs.Coded.{entries}
use Rattle.live_lanes.specs.Doing.{doing_of}
use Rattle.live_lanes.specs.Entering.{Enters, blocks_entered}
use Rattle.live_lanes.proofs.Bounded.{seen-all}
use Rattle.live_lanes.proofs.compute.enter.enter_pieces.Goals as goal

pub returns-clause-few : goal.returns-clause-few
returns-clause-few c = omega (arith, c.in_ok-add_blocks.ensures.lanes, c.in_ok-rows.ensures.lanes, c.in-Ok.ensures)

pub returns-clause-seen : goal.returns-clause-seen
returns-clause-seen c = λ table.
    let viewed = ap (λ f. f.blocks) c.func.view_is in
    let sliced = c.as_slice.ensures in
    let same : c.as_slice.result.now ≡ c.args.func.now.blocks = cc in
    let place = get nat_cmp c.args.order.now.positions in
    let doing = doing_of c.args.target.now c.args.func.now (number_in c.args.lanes.now) in
    let long : length c.in_ok-rows.rows.rows.items ≡ length c.args.lanes.now.owners.items = omega (arith, c.in_ok-rows.ensures.lanes, c.in-Ok.ensures, c.len.ensures) in
    let came = subst (λ bs. Enters c.in_ok-rows.rows.rows.items c.add_blocks.new.self.rows.items (blocks_entered place 0 (entries doing bs))) same c.in_ok-add_blocks.ensures in
    seen-all c.args.target.now c.args.func.now c.args.lanes.now place c.args.func.now.blocks c.in_ok-rows.rows.rows.items c.add_blocks.new.self.rows.items long c.in_ok-rows.ensures.seen came table
