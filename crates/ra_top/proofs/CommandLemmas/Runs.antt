-- The run of a function that is valid, and why one isn't run.
use Rattle.std.specs.Prelude.{◌≡◌, ℕ, List, Some, None, Result, Ok, Err, IfOk}
use Rattle.std.proofs.Common.{sym, ◌∙◌, subst, inl}
use Rattle.target_base.specs.declared.types.Target.{Target}
use Rattle.mir_func.specs.Value.{Function}
use Rattle.mir_meaning.specs.declared.Form.TheVariants as forms
use Rattle.mir_meaning.specs.Valid.{IsValid}
use Rattle.pipeline.specs.declared.guarded.stop.LimitName.{LimitName}
use Rattle.pipeline.specs.declared.guarded.stop.FunctionStop.TheVariants as stops
use Rattle.pipeline.specs.Guarded.Limits.{passed_limit}
use Rattle.pipeline.specs.Guarded.Function.{IsTaken}
use Rattle.ra_top.specs.declared.commands.answer.Answer.{Answer}
use Rattle.ra_top.specs.declared.commands.answer.Answer.TheVariants as answers
use Rattle.ra_top.specs.declared.commands.status.Status.{Status}
use Rattle.ra_top.specs.Commands.Documents.{IsRunOf, IsTextOfRun, RunRefuses, IsStatusOf, IsRefusalFor, IsRunAnswer}

-- the copy g of f is taken, and handed back as h, which is run
pub runs_source : (t : Target) (f g h : Function) (n seed : ℕ) (text : List ℕ) → g ≡ f → h ≡ g → IsTaken t g → IsTextOfRun t h n seed text → IsRunOf t f n seed text
runs_source t f g h n seed text copied back taken runs = record {
  fits = subst (λ x. passed_limit x ≡ None) copied taken.fits;
  valid = inl (subst (λ x. IsValid t forms.Source x) copied taken.valid);
  run = subst (λ x. IsTextOfRun t x n seed text) (back ∙ copied) runs;
}

limited_by : (t : Target) (f g : Function) (l : LimitName) (s : Status) (detail : List ℕ) → g ≡ f → passed_limit g ≡ Some l → IsStatusOf (stops.Limit l) s detail → RunRefuses t f s detail
limited_by t f g l s detail copied passed is = subst (λ z. RunRefuses t f z detail) (sym is) (subst (λ x. passed_limit x ≡ Some l) copied passed)

-- the copy g of f passes a limit
pub run_limited : {E : Type 0} (t : Target) (n seed : ℕ) (f g : Function) (l : LimitName) (r : Result Answer E) → g ≡ f → passed_limit g ≡ Some l → IfOk r (IsRefusalFor (stops.Limit l)) → IfOk r (IsRunAnswer t n seed f)
run_limited t n seed f g l (Ok (answers.Text text)) copied passed is = absurd is
run_limited t n seed f g l (Ok (answers.Last text)) copied passed is = absurd is
run_limited t n seed f g l (Ok (answers.Refused s detail)) copied passed is = limited_by t f g l s detail copied passed is
run_limited t n seed f g l (Err e) copied passed is = tt
