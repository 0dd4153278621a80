use Rattle.std.proofs.Common.{arith, refl}
use Rattle.std.specs.Ordering.{nat_cmp}
use Rattle.std.specs.BTreeMap.{get}
use Rattle.live_lanes.specs.Entering.{end_entered}
use Rattle.instr_effects.specs.Steps.{seen_read}
use Rattle.live_lanes.proofs.Entering.{enters-none, enters-item, enters-mapped}
use Rattle.live_lanes.proofs.table.LaneRanges.add_phi_reads.Goals as goal

pub reads-init : goal.reads-init
reads-init c = enters-none c.args.self.now.rows.items _ (λ l b v. refl)

pub reads-preserved : goal.reads-preserved
reads-preserved c = enters-item (λ l b r. end_entered (get nat_cmp c.args.order.now.positions) l b (seen_read r)) c.args.self.now.rows.items c.reads.self.rows.items c.add_phi_read.new.self.rows.items c.args.reads.now c.reads.read-index c.read-item.result (omega arith) c.read-item.is c.reads.invariant c.in_ok-add_phi_read.ensures

pub returns : goal.returns
returns c = enters-mapped seen_read (λ l b. end_entered (get nat_cmp c.args.order.now.positions) l b) c.args.self.now.rows.items c.reads.self.rows.items c.args.reads.now c.reads.read-index (omega arith) c.reads.invariant
