use Rattle.std.proofs.Common.{◌≡◌, ℕ, drop}
use Rattle.std.specs.List.{list_any}
use Rattle.spiller.specs.Reaching.{Facts}
use Rattle.spiller.specs.Readings.{needs_value}
use Rattle.spiller.specs.Views.{spilling_of}
use Rattle.spiller.proofs.remat.is_needed.Given as goal

-- what is left decides
abbrev pub invariant-uses : goal.invariant-uses
invariant-uses l = (slot : ℕ) (facts : Facts) → list_any (needs_value (spilling_of l.view slot facts) l.definition) l.readings ≡ list_any (needs_value (spilling_of l.view slot facts) l.definition) (drop l.reading-index l.readings)
