-- A run before its first document.
use Rattle.std.proofs.Common.{◌≡◌, ℕ, List, [], Option, Some, None, refl, sym, ◌∙◌, subst, inl, inr}
use Rattle.std.specs.Prelude.{IfSome, codes}
use Rattle.target_base.specs.declared.types.Target.{Target}
use Rattle.ra_top.specs.Words.Words.{Asked, Alloc, VerifySource, VerifyAllocated, Run, Intervals, Trace, Check, Gen}
use Rattle.ra_top.specs.declared.commands.answer.Job.{Job}
use Rattle.ra_top.specs.declared.commands.answer.Job.TheVariants as jobs
use Rattle.ra_top.specs.declared.commands.status.Status.{Status}
use Rattle.ra_top.specs.declared.commands.status.Status.TheVariants as status
use Rattle.ra_top.specs.Commands.Status.{line_of}
use Rattle.ra_top.specs.Told.{Begun, CutOff, Streamed, IsTold, TargetVerdict, DoesJob, DoesAll}
use Rattle.mir_meaning.specs.declared.Form.TheVariants as forms
use Rattle.ra_top.proofs.Nothing.{writes_none, none_of_nothing, nothing_whole}

nothing_begun : (job : Job) (t : Target) (file : Option (List ℕ)) (old : Option (List ℕ)) → IfSome file (λ f. Begun job t f old old)
nothing_begun job t None old = tt
nothing_begun job t (Some f) old = record { pieces = []; treated = tt; written = writes_none old }

cut : (job : Job) (t : Target) (f : List ℕ) (left old : Option (List ℕ)) → left ≡ Some f → CutOff job t f left old old
cut job t f left old is = record {
  pieces = [];
  treated = record { piece = []; rest = f; cut = refl; left_is = is; none = none_of_nothing; open_yet = nothing_whole };
  written = writes_none old;
}

cut_at_start : (job : Job) (t : Target) (file left old : Option (List ℕ)) → IfSome file (λ f. left ≡ Some f) → IfSome file (λ f. CutOff job t f left old old)
cut_at_start job t None left old is = tt
cut_at_start job t (Some f) left old is = cut job t f left old is

no_verdict : (file : Option (List ℕ)) → IfSome file (λ bytes. TargetVerdict bytes status.Memory [])
no_verdict None = tt
no_verdict (Some bytes) = tt

-- memory ran out before a job
out_of_memory : (job : Job) (t f : List ℕ) (contents : List ℕ → Option (List ℕ)) (left old : Option (List ℕ)) → DoesJob job t f contents left old old status.Memory t []
out_of_memory job t f contents left old = inl (record { named = λ h. refl; file_is = refl; verdict = no_verdict (contents t); unwritten = refl })

-- memory ran out before anything was done, whatever was asked
pub memory_does : (a : Option Asked) (contents : List ℕ → Option (List ℕ)) (left old : Option (List ℕ)) (f0 f1 : ℕ) (e0 e1 : Option (List ℕ)) → IsTold f0 f1 e0 e1 (line_of status.Memory [] []) → DoesAll a contents left old old f0 f1 e0 e1 status.Memory
memory_does None contents left old f0 f1 e0 e1 told = record { file = []; detail = []; does = (inr refl, refl); told = told }
memory_does (Some (Alloc how t f)) contents left old f0 f1 e0 e1 told = record { file = t; detail = []; does = out_of_memory (jobs.Alloc how) t f contents left old; told = told }
memory_does (Some (VerifySource t f)) contents left old f0 f1 e0 e1 told = record { file = t; detail = []; does = out_of_memory (jobs.Verify forms.Source) t f contents left old; told = told }
memory_does (Some (VerifyAllocated t f)) contents left old f0 f1 e0 e1 told = record { file = t; detail = []; does = out_of_memory (jobs.Verify forms.Allocated) t f contents left old; told = told }
memory_does (Some (Run t f g n s)) contents left old f0 f1 e0 e1 told = record { file = []; detail = []; does = inl (refl, refl); told = told }
memory_does (Some (Intervals t f)) contents left old f0 f1 e0 e1 told = record { file = t; detail = []; does = out_of_memory jobs.Intervals t f contents left old; told = told }
memory_does (Some (Trace how t f)) contents left old f0 f1 e0 e1 told = record { file = t; detail = []; does = out_of_memory (jobs.Trace how) t f contents left old; told = told }
memory_does (Some (Check t a b)) contents left old f0 f1 e0 e1 told = record { file = t; detail = []; does = inl (record { named = λ h. refl; file_is = refl; verdict = no_verdict (contents t); unwritten = refl }); told = told }
memory_does (Some (Gen s)) contents left old f0 f1 e0 e1 told = record { file = codes "g"; detail = []; does = (refl, refl); told = told }

-- the same of a line that was told
pub memory_told : (a : Option Asked) (contents : List ℕ → Option (List ℕ)) (left old : Option (List ℕ)) (f0 f1 : ℕ) (e0 e1 : Option (List ℕ)) (s result : Status) (file detail : List ℕ) → s ≡ status.Memory → result ≡ s → IsTold f0 f1 e0 e1 (line_of s file detail) → DoesAll a contents left old old f0 f1 e0 e1 result
memory_told a contents left old f0 f1 e0 e1 s result file detail is same told =
    subst (λ x. DoesAll a contents left old old f0 f1 e0 e1 x) (sym (same ∙ is))
    (memory_does a contents left old f0 f1 e0 e1 (subst (λ x. IsTold f0 f1 e0 e1 (line_of x file detail)) is told))

-- the file couldn't be begun
pub fails_at_start : (job : Job) (t : Target) (file left old : Option (List ℕ)) (s : Status) (detail : List ℕ) → s ≡ status.ReadFault → IfSome file (λ f. left ≡ Some f) → IfSome file (λ f. Streamed job t f left old old s detail)
fails_at_start job t file left old s detail is at =
    subst (λ x. IfSome file (λ f. Streamed job t f left old old x detail)) (sym is) (cut_at_start job t file left old at)

-- memory ran out before the file was begun
pub memory_at_start : (job : Job) (t : Target) (file left old : Option (List ℕ)) (s : Status) (detail : List ℕ) → s ≡ status.Memory → IfSome file (λ f. Streamed job t f left old old s detail)
memory_at_start job t file left old s detail is =
    subst (λ x. IfSome file (λ f. Streamed job t f left old old x detail)) (sym is) (nothing_begun job t file old)
