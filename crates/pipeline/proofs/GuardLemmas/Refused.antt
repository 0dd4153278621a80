-- Why a function is refused.
use Rattle.std.specs.Prelude.{◌≡◌, ℕ, Bool, true, false, List, Some, None, if◌then◌else◌}
use Rattle.std.proofs.Common.{subst, sym, refl}
use Rattle.target_base.specs.declared.types.Target.{Target}
use Rattle.mir_func.specs.Value.{Function}
use Rattle.mir_meaning.specs.declared.Form.{Form}
use Rattle.mir_meaning.specs.declared.Form.TheVariants as forms
use Rattle.mir_meaning.specs.Valid.{IsValid, FirstFault}
use Rattle.mir_meaning.specs.Places.{FirstPlace, TooMany, PlacesServe}
use Rattle.live_laws.specs.Effects.Shaped.{AreClasses}
use Rattle.machine_verify.specs.Verdict.{IfInvalid}
use Rattle.machine_verify.specs.declared.stop.VerifyStop.{VerifyStop}
use Rattle.machine_verify.specs.declared.stop.VerifyStop.TheVariants as verifier
use Rattle.place_solve.specs.Own.{HasFew, IfVariables, IfUnassignable}
use Rattle.place_solve.specs.declared.check.PlaceStop.{PlaceStop}
use Rattle.place_solve.specs.declared.check.PlaceStop.TheVariants as places
use Rattle.spiller.specs.declared.stop.RunStop.{RunStop}
use Rattle.spiller.specs.declared.stop.RunStop.TheVariants as runs
use Rattle.pipeline.specs.declared.guarded.stop.FunctionStop.{FunctionStop}
use Rattle.pipeline.specs.declared.guarded.stop.FunctionStop.TheVariants as stops
use Rattle.pipeline.specs.declared.guarded.stop.LimitName.{LimitName}
use Rattle.pipeline.specs.declared.guarded.stop.LimitName.TheVariants as limits
use Rattle.pipeline.specs.Guarded.Limits.{passed_limit}
use Rattle.pipeline.specs.Guarded.Stops.{of_verifier, of_places, of_run}
use Rattle.pipeline.specs.Guarded.Function.{AdmitsNone, IsTaken, IfLimited, IfRefused, IfPassed, IfUnfit, IfBeforeRun, comes_before_run}

-- by a limit
pub limit_unfit : (t : Target) (form : Form) (f : Function) (stop : FunctionStop) → IfPassed f stop → IfUnfit t form f stop
limit_unfit t form f (stops.Limit l) h = h
limit_unfit t form f (stops.Unassignable n x) h = absurd h
limit_unfit t form f (stops.Invalid n x) h = absurd h
limit_unfit t form f stops.NotYet h = absurd h
limit_unfit t form f (stops.Memory e) h = absurd h

-- by a verifier
pub fault_unfit : (t : Target) (form : Form) (f : Function) (name : List ℕ) (stop : VerifyStop) (e : FunctionStop) → e ≡ of_verifier name stop → passed_limit f ≡ None → name ≡ f.name → IfInvalid (FirstFault t form f) stop → IfUnfit t form f e
fault_unfit t form f name (verifier.Invalid x) e is fits named first = subst (IfUnfit t form f) (sym is) (fits, named, first)
fault_unfit t form f name (verifier.Memory m) e is fits named first = subst (IfUnfit t form f) (sym is) tt

pub ruleset unfit = (limit_unfit, fault_unfit)

-- a function passes no other limit before its places are asked
no_variables : (a b c : Bool) → (if a then Some limits.Blocks else (if b then Some limits.Instructions else (if c then Some limits.Registers else None))) ≡ Some limits.Variables → ⊥
no_variables true b c h = absurd (cc)
no_variables false true c h = absurd (cc)
no_variables false false true h = absurd (cc)
no_variables false false false h = absurd (cc)

no_ranges : (a b c : Bool) → (if a then Some limits.Blocks else (if b then Some limits.Instructions else (if c then Some limits.Registers else None))) ≡ Some limits.Ranges → ⊥
no_ranges true b c h = absurd (cc)
no_ranges false true c h = absurd (cc)
no_ranges false false true h = absurd (cc)
no_ranges false false false h = absurd (cc)

passed : (t : Target) (f : Function) (l : LimitName) → passed_limit f ≡ Some l → IfLimited t f l × (comes_before_run (stops.Limit l) ≡ true)
passed t f limits.Variables h = absurd (no_variables _ _ _ h)
passed t f limits.Ranges h = absurd (no_ranges _ _ _ h)
passed t f limits.TargetBytes h = (h, refl)
passed t f limits.File h = (h, refl)
passed t f limits.Document h = (h, refl)
passed t f limits.Blocks h = (h, refl)
passed t f limits.Instructions h = (h, refl)
passed t f limits.Registers h = (h, refl)

-- a function that isn't valid as a source within the limits
unfit_refused : (t : Target) (f : Function) (stop : FunctionStop) → IfUnfit t forms.Source f stop → IfRefused t f stop × IfBeforeRun stop
unfit_refused t f (stops.Limit l) h = passed t f l h
unfit_refused t f (stops.Invalid n x) h = (h, refl)
unfit_refused t f (stops.Unassignable n x) h = absurd h
unfit_refused t f stops.NotYet h = absurd h
unfit_refused t f (stops.Memory e) h = (tt, tt)

pub refused_unfit : (t : Target) (f : Function) (stop e : FunctionStop) → e ≡ stop → IfUnfit t forms.Source f stop → IfRefused t f e
refused_unfit t f stop e is h = subst (IfRefused t f) (sym is) (unfit_refused t f stop h).0

pub early_unfit : (t : Target) (f : Function) (stop e : FunctionStop) → e ≡ stop → IfUnfit t forms.Source f stop → IfBeforeRun e
early_unfit t f stop e is h = subst IfBeforeRun (sym is) (unfit_refused t f stop h).1

-- the places of f, where s is f
module _ (t : Target) (f s : Function) (taken : IsTaken t f) (classes : AreClasses t f) (same : s ≡ f) where
  pub serving : (AreClasses t s → IsValid t forms.Source s → PlacesServe t s) → PlacesServe t f
  serving h = subst (λ g. AreClasses t g → IsValid t forms.Source g → PlacesServe t g) same h classes taken.valid

  placed : (name : List ℕ) (stop : PlaceStop) → name ≡ f.name → IfVariables (FirstPlace t s TooMany) stop → IfUnassignable (λ x. HasFew t s) stop → IfUnassignable (λ x. AreClasses t s → IsValid t forms.Source s → FirstPlace t s (AdmitsNone t s) x) stop → IfRefused t f (of_places name stop)
  placed name (places.Unassignable x) named many few first =
      (taken, named, subst (HasFew t) same few, subst (λ g. AreClasses t g → IsValid t forms.Source g → FirstPlace t g (AdmitsNone t g) x) same first classes taken.valid)
  placed name (places.Variables x) named many few first = (taken, (x, subst (λ g. FirstPlace t g TooMany x) same many))
  placed name (places.Memory e) named many few first = tt

  pub refused_placed : (name : List ℕ) (stop : PlaceStop) (e : FunctionStop) → e ≡ of_places name stop → name ≡ f.name → IfVariables (FirstPlace t s TooMany) stop → IfUnassignable (λ x. HasFew t s) stop → IfUnassignable (λ x. AreClasses t s → IsValid t forms.Source s → FirstPlace t s (AdmitsNone t s) x) stop → IfRefused t f e
  refused_placed name stop e is named many few first = subst (IfRefused t f) (sym is) (placed name stop named many few first)

early_places : (name : List ℕ) (stop : PlaceStop) → IfBeforeRun (of_places name stop)
early_places name (places.Unassignable x) = refl
early_places name (places.Variables x) = refl
early_places name (places.Memory e) = tt

pub early_placed : (name : List ℕ) (stop : PlaceStop) (e : FunctionStop) → e ≡ of_places name stop → IfBeforeRun e
early_placed name stop e is = subst IfBeforeRun (sym is) (early_places name stop)

-- a function whose run was refused
late : (t : Target) (f : Function) (stop : RunStop) → IsTaken t f → PlacesServe t f → IfRefused t f (of_run stop)
late t f runs.Ranges taken serve = (taken, serve)
late t f runs.Unfinished taken serve = (taken, serve)
late t f (runs.Memory e) taken serve = tt

pub refused_late : (t : Target) (f : Function) (stop : RunStop) (e : FunctionStop) → e ≡ of_run stop → IsTaken t f → PlacesServe t f → IfRefused t f e
refused_late t f stop e is taken serve = subst (IfRefused t f) (sym is) (late t f stop taken serve)

not_before : (stop : RunStop) → comes_before_run (of_run stop) ≡ false
not_before runs.Ranges = refl
not_before runs.Unfinished = refl
not_before (runs.Memory e) = refl

no_both : {P : Type 0} (b : Bool) → b ≡ false → b ≡ true → P
no_both true is before = absurd (cc)
no_both false is before = absurd (cc)

-- it doesn't come before the run
pub untold_late : {P : Type 0} (stop : RunStop) (e : FunctionStop) → e ≡ of_run stop → comes_before_run e ≡ true → P
untold_late stop e is before = no_both (comes_before_run e) (subst (λ x. comes_before_run x ≡ false) (sym is) (not_before stop)) before
