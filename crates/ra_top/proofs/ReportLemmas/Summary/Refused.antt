-- Why nothing is said of a seed.
use Rattle.std.specs.Prelude.{◌≡◌, ℕ, Some, Result, Ok, Err, IfErr}
use Rattle.std.proofs.Common.{subst, sym, ◌∙◌}
use Rattle.target_base.specs.declared.types.Target.{Target}
use Rattle.target_base.specs.Mini.{mini_target}
use Rattle.mir_func.specs.Value.{Function}
use Rattle.ra_top.specs.Generator.Generated.{generated_for}
use Rattle.pipeline.specs.declared.guarded.stop.FunctionStop.{FunctionStop}
use Rattle.pipeline.specs.declared.guarded.stop.FunctionStop.TheVariants as stops
use Rattle.pipeline.specs.Guarded.Function.{IfRefused}
use Rattle.ra_top.specs.Report.Summary.Generated.{IsGenerated, IfGenRefused}

-- the function of the seed is this one
only : (seed : ℕ) (f g : Function) → IsGenerated seed f → IsGenerated seed g → f ≡ g
only seed f g a b = let both : Some f ≡ Some g = sym a ∙ b in cc

-- by the refusal of its function
stopped : (seed : ℕ) (f : Function) (stop : FunctionStop) → IsGenerated seed f → IfRefused mini_target f stop → IfGenRefused seed stop
stopped seed f (stops.Limit l) made h = record { source = f; generated = made; refused = h }
stopped seed f (stops.Invalid n x) made h = record { source = f; generated = made; refused = h }
stopped seed f (stops.Unassignable n p) made h = record { source = f; generated = made; refused = h }
stopped seed f stops.NotYet made h = λ g other. subst (λ x. IfRefused mini_target x stops.NotYet) (only seed f g made other) h
stopped seed f (stops.Memory e) made h = tt

pub refuses : {X : Type 0} (seed : ℕ) (t : Target) (f : Function) (result : Result X FunctionStop) → t ≡ mini_target → generated_for t seed ≡ Some f → IfErr result (IfRefused t f) → IfErr result (IfGenRefused seed)
refuses seed t f (Ok x) mini made h = tt
refuses seed t f (Err stop) mini made h = stopped seed f stop (subst (λ u. generated_for u seed ≡ Some f) mini made) (subst (λ u. IfRefused u f stop) mini h)
