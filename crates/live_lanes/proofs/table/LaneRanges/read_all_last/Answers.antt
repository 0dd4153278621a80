use Rattle.std.proofs.Common.{arith, refl}
use Rattle.live_lanes.specs.Entering.{last_entered}
use Rattle.live_lanes.proofs.Entering.{enters-none, enters-more, enters-all}
use Rattle.live_lanes.proofs.table.LaneRanges.read_all_last.Goals as goal

pub lanes-init : goal.lanes-init
lanes-init c = enters-none c.args.self.now.rows.items _ (λ l b v. refl)

pub lanes-preserved : goal.lanes-preserved
lanes-preserved c = enters-more (λ l b. last_entered c.args.block l b) c.args.self.now.rows.items c.lanes.self.rows.items c.read_last.new.self.rows.items c.args.lanes.now c.lanes.lane-index 0 (omega arith) c.lanes.invariant c.in_ok-read_last.ensures

pub returns : goal.returns
returns c = enters-all (λ l b. last_entered c.args.block l b) c.args.self.now.rows.items c.lanes.self.rows.items c.args.lanes.now c.lanes.lane-index (omega arith) c.lanes.invariant
