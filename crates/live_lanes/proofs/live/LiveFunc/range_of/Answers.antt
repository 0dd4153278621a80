use Rattle.std.proofs.Common.{ap, ◌∙◌}
use Rattle.instr_effects.specs.declared.owner.Owner.TheVariants as owners
use Rattle.live_lanes.specs.Extents.{range_lane}
use Rattle.live_lanes.proofs.live.LiveFunc.range_of.Goals as goal

pub returns-clause-owner : goal.returns-clause-owner
returns-clause-owner c = c.range_lane.ensures ∙ ap range_lane c.owner_of.ensures

pub returns-clause-numbered : goal.returns-clause-numbered
returns-clause-numbered c = λ table v k e. c.range_lane.ensures ∙ (ap range_lane c.owner_of.ensures ∙ ap range_lane (table.owned (owners.Range v k) c.args.lane e))
