use Rattle.std.proofs.Common.{arith, refl}
use Rattle.live_lanes.specs.Entering.{read_entered}
use Rattle.live_lanes.proofs.Entering.{enters-none, enters-more, enters-all}
use Rattle.live_lanes.proofs.table.LaneRanges.add_reads.Goals as goal

pub lanes-init : goal.lanes-init
lanes-init c = enters-none c.args.self.now.rows.items _ (λ l b v. refl)

pub lanes-preserved : goal.lanes-preserved
lanes-preserved c = enters-more (λ l b. read_entered c.args.block c.args.id l b) c.args.self.now.rows.items c.lanes.self.rows.items c.add_reading.new.self.rows.items c.args.lanes.now c.lanes.lane-index 0 (omega arith) c.lanes.invariant c.in_ok-add_reading.ensures

pub returns : goal.returns
returns c = enters-all (λ l b. read_entered c.args.block c.args.id l b) c.args.self.now.rows.items c.lanes.self.rows.items c.args.lanes.now c.lanes.lane-index (omega arith) c.lanes.invariant
