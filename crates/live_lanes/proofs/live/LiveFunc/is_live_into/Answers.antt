use Rattle.std.proofs.Common.{◌∙◌, ℕ}
use Rattle.live_lanes.specs.Entered.{causes}
use Rattle.live_lanes.specs.Graph.{is_live}
use Rattle.live_lanes.proofs.Touching.{range-lanes}
use Rattle.live_lanes.proofs.live.LiveFunc.is_live_into.Goals as goal

pub returns : goal.returns
returns c = c.is_some_live_in.ensures ∙ range-lanes (λ (l : ℕ). is_live (causes c.args.self.now.table.rows.rows.items l c.args.position 0)) c.args.self.now.table c.args.v c.of_range.result.first c.of_range.result.count c.of_range.ensures
