use Rattle.std.proofs.Common.{◌∙◌}
use Rattle.live_lanes.proofs.row.LaneRange.make_behind.Goals as goal

pub returns-clause-same : goal.returns-clause-same
returns-clause-same c = λ b. c.make.ensures.same b ∙ c.fill.ensures b
