use Rattle.std.proofs.Common.{◌≡◌, ℕ, take}
use Rattle.spiller.specs.Reaching.{Facts}
use Rattle.spiller.specs.Readings.{reached_by}
use Rattle.spiller.specs.Setting.{own_lanes}
use Rattle.spiller.specs.Views.{spilling_of}
use Rattle.spiller.proofs.ReadingsFound.{passing, option_list}
use Rattle.spiller.proofs.remat.only_definition.Given as goal

abbrev pub invariant-definitions : goal.invariant-definitions
invariant-definitions l = (slot : ℕ) (facts : Facts) → passing (reached_by l.reading.by.items (own_lanes (spilling_of l.view slot facts) l.reading.demand.index)) (take l.definition-index l.definitions) ≡ option_list l.only
