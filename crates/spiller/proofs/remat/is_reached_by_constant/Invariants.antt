use Rattle.std.proofs.Common.{◌≡◌, ℕ, drop}
use Rattle.std.specs.List.{list_any}
use Rattle.spiller.specs.Reaching.{Facts}
use Rattle.spiller.specs.Readings.{reached_by_constant}
use Rattle.spiller.specs.Setting.{own_lanes}
use Rattle.spiller.specs.Views.{spilling_of}
use Rattle.spiller.proofs.remat.is_reached_by_constant.Given as goal

-- what is left decides
abbrev pub invariant-definitions : goal.invariant-definitions
invariant-definitions l = (slot : ℕ) (facts : Facts) → list_any (reached_by_constant l.reading.by.items (own_lanes (spilling_of l.view slot facts) l.reading.demand.index)) l.definitions
    ≡ list_any (reached_by_constant l.reading.by.items (own_lanes (spilling_of l.view slot facts) l.reading.demand.index)) (drop l.definition-index l.definitions)
