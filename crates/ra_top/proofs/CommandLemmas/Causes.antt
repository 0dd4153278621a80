-- A function that is refused for a cause is refused so by a command.
use Rattle.std.specs.Prelude.{ℕ, List, Result, Ok, Err, IfOk}
use Rattle.std.proofs.Common.{subst, sym, ap, refl, ◌∙◌}
use Rattle.target_base.specs.declared.types.Target.{Target}
use Rattle.mir_func.specs.Value.{Function}
use Rattle.mir_meaning.specs.declared.Form.{Form}
use Rattle.pipeline.specs.declared.guarded.stop.FunctionStop.{FunctionStop}
use Rattle.pipeline.specs.declared.guarded.stop.FunctionStop.TheVariants as stops
use Rattle.pipeline.specs.declared.guarded.stop.LimitName.{LimitName}
use Rattle.pipeline.specs.declared.guarded.stop.LimitName.TheVariants as limits
use Rattle.pipeline.specs.Guarded.Function.{IfPassed, IfUnfit, IfRefused, IfBeforeRun}
use Rattle.ra_top.specs.declared.commands.answer.Answer.{Answer}
use Rattle.ra_top.specs.declared.commands.answer.Answer.TheVariants as answers
use Rattle.ra_top.specs.declared.commands.refusal.Refusal.{Refusal}
use Rattle.ra_top.specs.declared.commands.refusal.Refusal.TheVariants as refusals
use Rattle.ra_top.specs.declared.commands.status.Status.{Status}
use Rattle.ra_top.specs.declared.commands.status.Status.TheVariants as status
use Rattle.ra_top.specs.Checked.{LimitRefuses}
use Rattle.ra_top.specs.Commands.Piece.{IfBy}
use Rattle.ra_top.specs.Commands.Status.{invalid_words, unassignable_words}
use Rattle.ra_top.specs.Commands.Documents.{IntervalsRefuses, VerifyRefuses, IsStatusOf, IsRefusalFor, IsVerifyAnswer, IsIntervalsAnswer}

verify_by : (t : Target) (form : Form) (f : Function) (stop : FunctionStop) (s : Status) (detail : List ℕ) → IfUnfit t form f stop → IsStatusOf stop s detail → VerifyRefuses t form f s detail
verify_by t form f (stops.Limit l) s detail h is = subst (λ z. VerifyRefuses t form f z detail) (sym is) h
verify_by t form f (stops.Invalid n x) s detail h is = subst (λ z. VerifyRefuses t form f z detail) (sym is.0) (h.0, h.2, is.1 ∙ ap (λ n. invalid_words n x) h.1)
verify_by t form f (stops.Unassignable n p) s detail h is = absurd h
verify_by t form f stops.NotYet s detail h is = absurd h
verify_by t form f (stops.Memory e) s detail h is = absurd is

pub source_refused : (t : Target) (form : Form) (f : Function) (stop : FunctionStop) (r : Refusal) → IfUnfit t form f stop → IfBy (IsStatusOf stop) r → IfBy (VerifyRefuses t form f) r
source_refused t form f stop (refusals.By s detail) h is = verify_by t form f stop s detail h is
source_refused t form f stop (refusals.Memory e) h is = tt

pub verify_refused : {E : Type 0} (t : Target) (form : Form) (f : Function) (stop : FunctionStop) (r : Result Answer E) → IfUnfit t form f stop → IfOk r (IsRefusalFor stop) → IfOk r (IsVerifyAnswer t form f)
verify_refused t form f stop (Ok (answers.Text text)) h is = absurd is
verify_refused t form f stop (Ok (answers.Last text)) h is = absurd is
verify_refused t form f stop (Ok (answers.Refused s detail)) h is = verify_by t form f stop s detail h is
verify_refused t form f stop (Err e) h is = tt

limit_by : (g : Function) (stop : FunctionStop) (s : Status) (detail : List ℕ) → IfPassed g stop → IsStatusOf stop s detail → LimitRefuses g s detail
limit_by g (stops.Limit l) s detail h is = subst (λ z. LimitRefuses g z detail) (sym is) h
limit_by g (stops.Invalid n x) s detail h is = absurd h
limit_by g (stops.Unassignable n p) s detail h is = absurd h
limit_by g stops.NotYet s detail h is = absurd h
limit_by g (stops.Memory e) s detail h is = absurd h

pub limit_refused : (g : Function) (stop : FunctionStop) (r : Refusal) → IfPassed g stop → IfBy (IsStatusOf stop) r → IfBy (LimitRefuses g) r
limit_refused g stop (refusals.By s detail) h is = limit_by g stop s detail h is
limit_refused g stop (refusals.Memory e) h is = tt

limit_early : (t : Target) (f : Function) (l : LimitName) (detail : List ℕ) → IfRefused t f (stops.Limit l) → IfBeforeRun (stops.Limit l) → IntervalsRefuses t f (status.Limit l) detail
limit_early t f limits.Ranges detail h early = absurd (cc)
limit_early t f limits.Variables detail h early = h
limit_early t f limits.TargetBytes detail h early = h
limit_early t f limits.File detail h early = h
limit_early t f limits.Document detail h early = h
limit_early t f limits.Blocks detail h early = h
limit_early t f limits.Instructions detail h early = h
limit_early t f limits.Registers detail h early = h

intervals_by : (t : Target) (f : Function) (stop : FunctionStop) (s : Status) (detail : List ℕ) → IfRefused t f stop → IfBeforeRun stop → IsStatusOf stop s detail → IntervalsRefuses t f s detail
intervals_by t f (stops.Limit l) s detail h early is = subst (λ z. IntervalsRefuses t f z detail) (sym is) (limit_early t f l detail h early)
intervals_by t f (stops.Invalid n x) s detail h early is = subst (λ z. IntervalsRefuses t f z detail) (sym is.0) ((h.0, refl, h.2), is.1 ∙ ap (λ n. invalid_words n x) h.1)
intervals_by t f (stops.Unassignable n p) s detail h early is = subst (λ z. IntervalsRefuses t f z detail) (sym is.0) ((h.0, refl, h.2, h.3), is.1 ∙ ap (λ n. unassignable_words n p) h.1)
intervals_by t f stops.NotYet s detail h early is = absurd (cc)
intervals_by t f (stops.Memory e) s detail h early is = absurd is

pub intervals_refused : {E : Type 0} (t : Target) (f : Function) (stop : FunctionStop) (r : Result Answer E) → IfRefused t f stop → IfBeforeRun stop → IfOk r (IsRefusalFor stop) → IfOk r (IsIntervalsAnswer t f)
intervals_refused t f stop (Ok (answers.Text text)) h early is = absurd is
intervals_refused t f stop (Ok (answers.Last text)) h early is = absurd is
intervals_refused t f stop (Ok (answers.Refused s detail)) h early is = intervals_by t f stop s detail h early is
intervals_refused t f stop (Err e) h early is = tt
