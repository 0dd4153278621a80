use Rattle.std.proofs.Common.{◌≡◌, ◌-◌}
use Rattle.std.specs.List.{list_any}
use Rattle.live_lanes.specs.Looks.{InOrder}
use Rattle.mir_meaning.specs.Registers.{numbers}
use Rattle.spiller.specs.Views.{own_setting}
use Rattle.spiller.proofs.plan.SpillView.is_some_behind.Given as goal

-- as far as lanes are left
abbrev pub invariant-lanes : goal.invariant-lanes
invariant-lanes l = InOrder l.self.live.now.table → list_any ((own_setting l.self).facts.live_behind l.id) (numbers l.k (l.count - l.k)) ≡ list_any ((own_setting l.self).facts.live_behind l.id) (numbers 0 l.count)
