-- A job over the files and the target that words name.
use Rattle.std.proofs.Common.{◌≡◌, ℕ, List, true, Option, refl, sym, ◌∙◌, subst, inl, inr, codes}
use Rattle.std.specs.Prelude.{IfSome}
use Rattle.target_base.specs.declared.types.Target.{Target}
use Rattle.ra_top.specs.Words.Words.{is_word}
use Rattle.ra_top.specs.declared.commands.answer.Job.{Job}
use Rattle.ra_top.specs.declared.commands.status.Status.{Status}
use Rattle.ra_top.specs.declared.commands.status.Status.TheVariants as status
use Rattle.ra_top.specs.Commands.Status.{line_of}
use Rattle.ra_top.specs.Checked.{ChecksFiles}
use Rattle.ra_top.specs.Told.{IsTold, NamesTarget, Streamed, TargetVerdict, IsTargetRefused, DoesJobAll, DoesCheckAll}

-- the documents were treated, and the line was told
pub does_over_target : (job : Job) (t : Target) (word f : List ℕ) (contents read : List ℕ → Option (List ℕ)) (left old new : Option (List ℕ)) (f0 f1 : ℕ) (e0 e1 : Option (List ℕ)) (s result : Status) (detail : List ℕ) → NamesTarget (is_word word (codes "-")) (contents word) t → read f ≡ contents f → IfSome (read f) (λ bytes. Streamed job t bytes left old new s detail) → result ≡ s → IsTold f0 f1 e0 e1 (line_of s f detail) → DoesJobAll job word f contents left old new f0 f1 e0 e1 result
does_over_target job t word f contents read left old new f0 f1 e0 e1 s result detail named same streamed e told = record {
  file = f;
  detail = detail;
  does = inr (record {
    target = t;
    named = named;
    file_is = refl;
    streamed = subst (λ x. IfSome (contents f) (λ bytes. Streamed job t bytes left old new x detail)) (sym e) (subst (λ o. IfSome o (λ bytes. Streamed job t bytes left old new s detail)) same streamed);
  });
  told = subst (λ x. IsTold f0 f1 e0 e1 (line_of x f detail)) (sym e) told;
}

refused : (word : List ℕ) (contents : List ℕ → Option (List ℕ)) (old : Option (List ℕ)) (s result : Status) (detail : List ℕ) → (is_word word (codes "-") ≡ true → s ≡ status.Memory) → IfSome (contents word) (λ bytes. TargetVerdict bytes s detail) → result ≡ s → IsTargetRefused word (contents word) old old result word detail
refused word contents old s result detail named verdict e = record {
  named = λ h. e ∙ named h;
  file_is = refl;
  verdict = subst (λ x. IfSome (contents word) (λ bytes. TargetVerdict bytes x detail)) (sym e) verdict;
  unwritten = refl;
}

-- the target was refused, and the line was told
pub does_refused : (job : Job) (word f : List ℕ) (contents : List ℕ → Option (List ℕ)) (left old : Option (List ℕ)) (f0 f1 : ℕ) (e0 e1 : Option (List ℕ)) (s result : Status) (detail : List ℕ) → (is_word word (codes "-") ≡ true → s ≡ status.Memory) → IfSome (contents word) (λ bytes. TargetVerdict bytes s detail) → result ≡ s → IsTold f0 f1 e0 e1 (line_of s word detail) → DoesJobAll job word f contents left old old f0 f1 e0 e1 result
does_refused job word f contents left old f0 f1 e0 e1 s result detail named verdict e told = record {
  file = word;
  detail = detail;
  does = inl (refused word contents old s result detail named verdict e);
  told = subst (λ x. IsTold f0 f1 e0 e1 (line_of x word detail)) (sym e) told;
}

-- the same of `check`
pub check_refused : (word source allocated : List ℕ) (contents : List ℕ → Option (List ℕ)) (left old : Option (List ℕ)) (f0 f1 : ℕ) (e0 e1 : Option (List ℕ)) (s result : Status) (detail : List ℕ) → (is_word word (codes "-") ≡ true → s ≡ status.Memory) → IfSome (contents word) (λ bytes. TargetVerdict bytes s detail) → result ≡ s → IsTold f0 f1 e0 e1 (line_of s word detail) → DoesCheckAll word source allocated contents left old old f0 f1 e0 e1 result
check_refused word source allocated contents left old f0 f1 e0 e1 s result detail named verdict e told = record {
  file = word;
  detail = detail;
  does = inl (refused word contents old s result detail named verdict e);
  told = subst (λ x. IsTold f0 f1 e0 e1 (line_of x word detail)) (sym e) told;
}

-- the files were compared, and the line was told
pub check_over : (t : Target) (word source allocated : List ℕ) (contents : List ℕ → Option (List ℕ)) (left old new : Option (List ℕ)) (f0 f1 : ℕ) (e0 e1 : Option (List ℕ)) (s result : Status) (file detail : List ℕ) → NamesTarget (is_word word (codes "-")) (contents word) t → ChecksFiles t source allocated contents left old new s file detail → result ≡ s → IsTold f0 f1 e0 e1 (line_of s file detail) → DoesCheckAll word source allocated contents left old new f0 f1 e0 e1 result
check_over t word source allocated contents left old new f0 f1 e0 e1 s result file detail named checks e told = record {
  file = file;
  detail = detail;
  does = inr (record { target = t; named = named; checks = subst (λ x. ChecksFiles t source allocated contents left old new x file detail) (sym e) checks });
  told = subst (λ x. IsTold f0 f1 e0 e1 (line_of x file detail)) (sym e) told;
}
