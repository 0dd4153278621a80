use Rattle.std.proofs.Common.{take}
use Rattle.std.specs.Ordering.{nat_cmp}
use Rattle.std.specs.BTreeMap.{get}
use Rattle.instr_effects.specs.Numbered.{number_in}
use Rattle.live_lanes.specs.Doing.{doing_of}
use Rattle.live_lanes.specs.Entering.{Enters, enter_all, step_entered}
use Rattle.live_lanes.proofs.table.LaneRanges.add_instrs.Given as goal

abbrev pub invariant-instrs : goal.invariant-instrs
invariant-instrs l = Enters l.fn.self.rows.items l.self.rows.items (λ m b v. enter_all (λ i. step_entered (get nat_cmp l.order.positions) l.block m b (doing_of l.reader.target.now l.reader.func.now (number_in l.reader.lanes.now) i)) (take l.instr-index l.instrs) v)
