use Rattle.std.proofs.Common.{take}
use Rattle.std.specs.Ordering.{nat_cmp}
use Rattle.std.specs.BTreeMap.{get}
use Rattle.live_lanes.specs.Entering.{Enters, enter_all, end_entered}
use Rattle.instr_effects.specs.Steps.{seen_read}
use Rattle.live_lanes.proofs.table.LaneRanges.add_phi_reads.Given as goal

abbrev pub invariant-reads : goal.invariant-reads
invariant-reads l = Enters l.fn.self.rows.items l.self.rows.items (λ m b v. enter_all (λ r. end_entered (get nat_cmp l.order.positions) m b (seen_read r)) (take l.read-index l.reads) v)
