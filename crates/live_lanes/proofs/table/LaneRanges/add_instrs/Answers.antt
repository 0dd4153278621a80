use Rattle.std.proofs.Common.{arith, refl}
use Rattle.std.specs.Ordering.{nat_cmp}
use Rattle.std.specs.BTreeMap.{get}
use Rattle.instr_effects.specs.Numbered.{number_in}
use Rattle.live_lanes.specs.Doing.{doing_of}
use Rattle.live_lanes.specs.Entering.{step_entered}
use Rattle.live_lanes.proofs.Entering.{enters-none, enters-item, enters-mapped}
use Rattle.live_lanes.proofs.table.LaneRanges.add_instrs.Goals as goal

pub instrs-init : goal.instrs-init
instrs-init c = enters-none c.args.self.now.rows.items _ (λ l b v. refl)

pub instrs-preserved : goal.instrs-preserved
instrs-preserved c =
    let r = c.args.reader.now in
    enters-item (λ l b i. step_entered (get nat_cmp c.args.order.now.positions) c.args.block l b (doing_of r.target.now r.func.now (number_in r.lanes.now) i)) c.args.self.now.rows.items c.instrs.self.rows.items c.add_instr.new.self.rows.items c.args.instrs.now c.instrs.instr-index c.get-instr.result.now (omega arith) (rw c.get-instr.ensures c.instr-item.is) c.instrs.invariant c.in_ok-add_instr.ensures

pub returns : goal.returns
returns c =
    let r = c.args.reader.now in
    enters-mapped (doing_of r.target.now r.func.now (number_in r.lanes.now)) (λ l b. step_entered (get nat_cmp c.args.order.now.positions) c.args.block l b) c.args.self.now.rows.items c.instrs.self.rows.items c.args.instrs.now c.instrs.instr-index (omega arith) c.instrs.invariant
