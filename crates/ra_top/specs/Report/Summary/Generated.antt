-- What is said of the function that is generated for a seed.
use Rattle.std.specs.Prelude.{◌≡◌, ℕ, List, Some}
use Rattle.target_base.specs.Mini.{mini_target}
use Rattle.target_base.specs.declared.types.Target.{Target}
use Rattle.mir_func.specs.Value.{Function}
use Rattle.ra_top.specs.Generator.Generated.{generated_for}
use Rattle.pipeline.specs.Guarded.Function.{Allocates, IfRefused}
use Rattle.pipeline.specs.declared.guarded.stop.FunctionStop.{FunctionStop}
use Rattle.pipeline.specs.declared.guarded.stop.FunctionStop.TheVariants as stops
use Rattle.ra_top.specs.Report.Summary.Summary.{IsSummary}

-- a text is the summary of a function and of one that is right for it
pub record IsTextOf (t : Target) (seed : ℕ) (f : Function) (text : List ℕ) : Type 0 where
  pub made : Function
  pub allocates : Allocates t f made
  pub summary : IsSummary t seed f made text

-- f is generated for the seed over the built-in target
abbrev pub IsGenerated : ℕ → Function → Type 0
IsGenerated seed f = generated_for mini_target seed ≡ Some f

-- a text is the summary of the function that is generated for a seed
pub record IsGenText (seed : ℕ) (text : List ℕ) : Type 0 where
  pub source : Function
  pub generated : IsGenerated seed source
  pub is : IsTextOf mini_target seed source text

-- the function that is generated for a seed is refused
pub record IsGenRefusal (seed : ℕ) (stop : FunctionStop) : Type 0 where
  pub source : Function
  pub generated : IsGenerated seed source
  pub refused : IfRefused mini_target source stop

-- Why nothing is said of a seed: its function is refused as each function is that isn't allocated. As not yet allocated it
-- is refused where that is due for each function of the seed; so it is too where there should be no such function.
abbrev pub IfGenRefused : ℕ → FunctionStop → Type 0
IfGenRefused seed (stops.Memory e) = Unit {0}
IfGenRefused seed stops.NotYet = (f : Function) → IsGenerated seed f → IfRefused mini_target f stops.NotYet
IfGenRefused seed stop = IsGenRefusal seed stop
