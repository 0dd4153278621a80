use Rattle.std.proofs.Common.{◌∙◌, sym}
use Rattle.spiller.specs.Views.{own_setting}
use Rattle.spiller.proofs.Behind.{numbers-found, numbers-next}
use Rattle.spiller.proofs.plan.SpillView.is_some_behind.Goals as goal

pub returns-then-is_lane_behind : goal.returns-then-is_lane_behind
returns-then-is_lane_behind c ordered = numbers-found ((own_setting c.args.self.now).facts.live_behind c.args.id) c.lanes.k c.args.count _ c.lanes-test.true (sym (c.is_lane_behind.ensures ordered) ∙ c.if-is_lane_behind.true) (c.lanes.invariant ordered)

pub lanes-preserved : goal.lanes-preserved
lanes-preserved c ordered = numbers-next ((own_setting c.args.self.now).facts.live_behind c.args.id) c.lanes.k c.args.count _ c.lanes-test.true (sym (c.is_lane_behind.ensures ordered) ∙ c.if-is_lane_behind.false) (c.lanes.invariant ordered)
