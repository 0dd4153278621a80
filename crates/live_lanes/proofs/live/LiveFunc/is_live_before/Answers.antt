use Rattle.std.proofs.Common.{◌∙◌}
use Rattle.live_lanes.proofs.Touching.{lanes-at}
use Rattle.live_lanes.proofs.live.LiveFunc.is_live_before.Goals as goal

pub returns : goal.returns
returns c = λ o. c.is_some_live_at.ensures o ∙ lanes-at c.args.self.now.table c.args.v c.of_range.result.first c.of_range.result.count c.args.id c.block_of.result c.entry_rank-at.result _ c.block_of.ensures c.entry_rank-at.ensures c.of_range.ensures
