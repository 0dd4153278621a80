use Rattle.std.proofs.Common.{◌+◌, ◌∙◌, ℕ, refl, sym, arith}
use Rattle.live_lanes.specs.Entered.{causes}
use Rattle.live_lanes.specs.Graph.{is_live}
use Rattle.live_lanes.proofs.Touching.{lane-found, lane-missed, lanes-missed}
use Rattle.live_lanes.proofs.table.LaneRanges.is_some_live_in.Goals as goal

pub lanes-preserved : goal.lanes-preserved
lanes-preserved c = lane-missed (λ (l : ℕ). is_live (causes c.args.self.now.rows.items l c.args.block 0)) c.args.own.first c.lanes.k (c.args.own.first + c.lanes.k) refl (sym c.is_live_in.ensures ∙ c.if-is_live_in.false) c.lanes.invariant

pub returns-then-is_live_in : goal.returns-then-is_live_in
returns-then-is_live_in c = lane-found (λ (l : ℕ). is_live (causes c.args.self.now.rows.items l c.args.block 0)) c.args.own.first c.lanes.k (c.args.own.first + c.lanes.k) c.args.own.count (omega arith) refl (sym c.is_live_in.ensures ∙ c.if-is_live_in.true)

pub returns : goal.returns
returns c = lanes-missed (λ (l : ℕ). is_live (causes c.args.self.now.rows.items l c.args.block 0)) c.args.own.first c.lanes.k c.args.own.count (omega arith) (omega arith) c.lanes.invariant
