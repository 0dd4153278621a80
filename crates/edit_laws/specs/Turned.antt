-- Which pieces died or came alive while a table was brought up to date after edits.
use Rattle.std.specs.Prelude.{◌≡◌, List, ◌++◌}
use Rattle.mir_meaning.specs.Paths.{Code}
use Rattle.live_lanes.specs.Graph.{Causes}
use Rattle.edit_laws.specs.Chains.{Node}
use Rattle.edit_laws.specs.Reasons.{Touched}
use Rattle.edit_laws.specs.Update.{IsUpdated, KeepLives}

-- Behind the listed pieces stand those that fell and those that came alive: all others are live where they were.
abbrev pub TurnedLaw : Type 0
TurnedLaw =
    (touched : Touched) (old new : Code) (was before after : Causes) (changed turned : List Node) → (u : IsUpdated touched old new was before after changed) → changed ≡ u.list ++ turned
    → KeepLives turned before after
