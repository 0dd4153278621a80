use Rattle.std.proofs.Common.{sym}
use Rattle.std.specs.Ordering.{nat_cmp}
use Rattle.std.specs.BTreeMap.{get}
use Rattle.instr_effects.specs.Steps.{seen_read}
use Rattle.live_lanes.proofs.Raised.{on-ok}
use Rattle.live_lanes.proofs.Entering.{end-some, end-none}
use Rattle.live_lanes.proofs.table.LaneRanges.add_phi_read.Goals as goal

pub returns-in-Some : goal.returns-in-Some
returns-in-Some c = on-ok c.read_all_last.result c.read_all_last.ensures (λ r. end-some (get nat_cmp c.args.order.now.positions) c.args.self.now.rows.items c.read_all_last.new.self.rows.items (seen_read c.args.read.now) c.in-Some.position c.as_slice.result.now (sym c.in-Some.ensures) c.as_slice.ensures.value r)

pub returns-in-None : goal.returns-in-None
returns-in-None c = end-none (get nat_cmp c.args.order.now.positions) c.args.self.now.rows.items (seen_read c.args.read.now) (sym c.in-None.ensures)
