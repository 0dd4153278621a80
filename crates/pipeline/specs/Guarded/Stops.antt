-- With what a function is refused for what a verifier, its places or the run said.
use Rattle.std.specs.Prelude.{ℕ, List}
use Rattle.machine_verify.specs.declared.stop.VerifyStop.{VerifyStop}
use Rattle.machine_verify.specs.declared.stop.VerifyStop.TheVariants as verifier
use Rattle.place_solve.specs.declared.check.PlaceStop.{PlaceStop}
use Rattle.place_solve.specs.declared.check.PlaceStop.TheVariants as places
use Rattle.spiller.specs.declared.stop.RunStop.{RunStop}
use Rattle.spiller.specs.declared.stop.RunStop.TheVariants as runs
use Rattle.pipeline.specs.declared.guarded.stop.FunctionStop.{FunctionStop}
use Rattle.pipeline.specs.declared.guarded.stop.FunctionStop.TheVariants as stops
use Rattle.pipeline.specs.declared.guarded.stop.LimitName.TheVariants as limits

-- the refusal of a function of a name by a verifier
abbrev pub of_verifier : List ℕ → VerifyStop → FunctionStop
of_verifier name (verifier.Invalid x) = stops.Invalid name x
of_verifier name (verifier.Memory e) = stops.Memory e

-- the refusal of a function of a name for one of its places
abbrev pub of_places : List ℕ → PlaceStop → FunctionStop
of_places name (places.Unassignable x) = stops.Unassignable name x
of_places name (places.Variables x) = stops.Limit limits.Variables
of_places name (places.Memory e) = stops.Memory e

-- the refusal of a function for its run
abbrev pub of_run : RunStop → FunctionStop
of_run runs.Ranges = stops.Limit limits.Ranges
of_run runs.Unfinished = stops.NotYet
of_run (runs.Memory e) = stops.Memory e
