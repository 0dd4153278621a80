use Rattle.std.proofs.Common.{◌≡◌, drop}
use Rattle.std.specs.List.{list_any}
use Rattle.live_lanes.specs.Looks.{InOrder}
use Rattle.spiller.specs.Views.{own_setting}
use Rattle.spiller.proofs.plan.SpillView.is_one_behind.Given as goal

-- as far as lanes are left
abbrev pub invariant-lanes : goal.invariant-lanes
invariant-lanes l = InOrder l.self.live.now.table → list_any ((own_setting l.self).facts.live_behind l.id) (drop l.k-index l.lanes) ≡ list_any ((own_setting l.self).facts.live_behind l.id) l.lanes
