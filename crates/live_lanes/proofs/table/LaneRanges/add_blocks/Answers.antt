use Rattle.std.proofs.Common.{◌≡◌, ◌<◌, ◌-◌, suc, length, drop, map, subst, arith}
use Rattle.std.specs.Ordering.{nat_cmp}
use Rattle.std.specs.BTreeMap.{get}
use Rattle.instr_effects.specs.Numbered.{number_in}
use Rattle.live_lanes.specs.Coded.{entries}
use Rattle.live_lanes.specs.Doing.{doing_of}
use Rattle.live_lanes.specs.Entering.{Enters, block_entered, blocks_entered}
use Rattle.live_lanes.proofs.Backward.{enters-before}
use Rattle.live_lanes.proofs.table.LaneRanges.add_blocks.Goals as goal

pub positions-preserved : goal.positions-preserved
positions-preserved c =
    let r = c.args.reader.now in
    let rows = c.args.self.now.rows.items in
    let bs = c.args.blocks.now in
    let k = c.positions.position - 1 in
    let within : k < length bs = omega (arith, c.in-Ok.ensures, c.positions-test.true) in
    let done : c.positions.position ≡ suc k = omega (arith, c.positions-test.true) in
    let doing = doing_of r.target.now r.func.now (number_in r.lanes.now) in
    let place = get nat_cmp c.args.order.now.positions in
    let before = subst (λ n. Enters rows c.positions.self.rows.items (blocks_entered place n (entries doing (drop n bs)))) done c.positions.invariant in
    let came = subst (λ is. Enters c.positions.self.rows.items c.add_instrs.new.self.rows.items (block_entered place k (map doing is))) c.as_slice.ensures c.in_ok-add_instrs.ensures in
    enters-before doing place rows c.positions.self.rows.items c.add_instrs.new.self.rows.items bs k c.index-blocks-position.result within c.index-blocks-position.is before came
