-- What is told of a call: the bytes that were written, and the faults of its devices.
use Rattle.std.specs.Prelude.{◌≡◌, ◌⊎◌, ◌<◌, ◌≤◌, ℕ, false, true, Bool, List, [], ◌++◌, Option, Some, None, IfSome, Ok, Err, length, codes}
use Rattle.std.specs.Borrow.{Bor}
use Rattle.std.specs.Fmt.{decimal}
use Rattle.target_base.specs.declared.types.Target.{Target}
use Rattle.target_base.specs.Mini.{mini_target}
use Rattle.target_desc.specs.Reading.{spelled}
use Rattle.target_desc.specs.Ending.{parts_of}
use Rattle.mir_meaning.specs.declared.Form.TheVariants as forms
use Rattle.ra_top.specs.Devices.Device.{Rose, WritesPart, WritesAll}
use Rattle.ra_top.specs.Words.Words.{Asked, Alloc, VerifySource, VerifyAllocated, Run, Intervals, Trace, Check, Gen, is_word}
use Rattle.ra_top.specs.declared.commands.answer.Job.{Job}
use Rattle.ra_top.specs.declared.commands.answer.Job.TheVariants as jobs
use Rattle.ra_top.specs.declared.commands.spot.DocStart.{DocStart}
use Rattle.pipeline.specs.declared.guarded.stop.LimitName.TheVariants as limits
use Rattle.ra_top.specs.declared.commands.status.Status.{Status}
use Rattle.ra_top.specs.declared.commands.status.Status.TheVariants as status
use Rattle.ra_top.specs.Commands.Spot.{first_spot}
use Rattle.ra_top.specs.Commands.Status.{line_of}
use Rattle.ra_top.specs.Commands.Answer.{IsText, IsLast}
use Rattle.ra_top.specs.Commands.Documents.{IsEndText}
use Rattle.ra_top.specs.Commands.Generated.{GenRefuses}
use Rattle.ra_top.specs.Report.Summary.Generated.{IsGenText}
use Rattle.ra_top.specs.Due.{IsHeld, IsUnfinished, Treatment, output, Treated, Due}
use Rattle.ra_top.specs.Checked.{ChecksFiles}

-- which faults rose for a status
abbrev pub HasStatusCause : Status → ℕ → ℕ → ℕ → ℕ → Type 0
HasStatusCause status.ReadFault old new out_old out_new = Rose old new × (out_new ≡ out_old)
HasStatusCause status.WriteFault old new out_old out_new = (new ≡ old) × Rose out_old out_new
HasStatusCause s old new out_old out_new = (new ≡ old) × (out_new ≡ out_old)

-- a text is due for a piece, whether the run goes on or ends with it
abbrev pub IsDueText : Job → Target → DocStart → List ℕ → List ℕ → Type 0
IsDueText job t spot piece text = IsText job t spot piece text ⊎ IsLast job t spot piece text

-- a text is due for the next piece
pub record IsNext (job : Job) (t : Target) (out : List ℕ) (spot : DocStart) (text : List ℕ) : Type 0 where
  pub piece : List ℕ
  pub rest : List ℕ
  pub cut : text ≡ piece ++ rest
  pub held : IsHeld piece rest
  pub answer : IsDueText job t spot piece out

-- a text is due for what is left: for the next piece, or at the end
abbrev pub IsNextText : Job → Target → List ℕ → DocStart → List ℕ → Type 0
IsNextText job t out spot text = IsNext job t out spot text ⊎ ((text ≡ []) × IsEndText job out)

-- a read failed: each whole piece of what was read is written
pub record CutOff (job : Job) (t : Target) (file : List ℕ) (left old new : Option (List ℕ)) : Type 0 where
  pub pieces : List Treatment
  pub treated : Treated job t first_spot file pieces (λ spot text. IsUnfinished text left)
  pub written : WritesAll old new (output pieces)

-- a write failed: of the texts of some pieces and of the next one a first part is written
pub record PartWritten (job : Job) (t : Target) (file : List ℕ) (old new : Option (List ℕ)) : Type 0 where
  pub pieces : List Treatment
  pub next : List ℕ
  pub treated : Treated job t first_spot file pieces (IsNextText job t next)
  pub written : WritesPart old new (output pieces ++ next)

-- memory ran out: the texts of some first pieces are written
pub record Begun (job : Job) (t : Target) (file : List ℕ) (old new : Option (List ℕ)) : Type 0 where
  pub pieces : List Treatment
  pub treated : Treated job t first_spot file pieces (λ spot text. Unit {0})
  pub written : WritesAll old new (output pieces)

-- the output that is due is written
pub record Written (job : Job) (t : Target) (file : List ℕ) (old new : Option (List ℕ)) (s : Status) (detail : List ℕ) : Type 0 where
  pub out : List ℕ
  pub due : Due job t file out s detail
  pub written : WritesAll old new out

-- what is written of a file for a status
abbrev pub Streamed : Job → Target → List ℕ → Option (List ℕ) → Option (List ℕ) → Option (List ℕ) → Status → List ℕ → Type 0
Streamed job t file left old new status.ReadFault detail = CutOff job t file left old new
Streamed job t file left old new status.WriteFault detail = PartWritten job t file old new
Streamed job t file left old new status.Memory detail = Begun job t file old new
Streamed job t file left old new s detail = Written job t file old new s detail

-- a line was written, and without a fault all of it
pub record IsTold (old_faults new_faults : ℕ) (old new : Option (List ℕ)) (line : List ℕ) : Type 0 where
  pub part : WritesPart old new line
  pub all : Rose old_faults new_faults ⊎ ((new_faults ≡ old_faults) × WritesAll old new line)

-- the most bytes of a target file
abbrev pub target_most : ℕ
target_most = 1048576

-- the bytes of a target file spell this target
abbrev pub IsTargetOf : List ℕ → Target → Type 0
IsTargetOf bytes t = (length bytes ≤ target_most) × (spelled bytes ≡ Ok (parts_of t))

-- why a target file is refused
abbrev pub TargetVerdict : List ℕ → Status → List ℕ → Type 0
TargetVerdict bytes (status.Limit limits.TargetBytes) detail = target_most < length bytes
TargetVerdict bytes (status.Target fault) detail = (length bytes ≤ target_most) × (spelled bytes ≡ Err fault) × (detail ≡ decimal fault.line)
TargetVerdict bytes status.ReadFault detail = Unit {0}
TargetVerdict bytes status.Memory detail = Unit {0}
TargetVerdict bytes s detail = ⊥

-- A word names a target, where its file holds these bytes; `-` is the built-in target.
abbrev pub NamesTarget : Bool → Option (List ℕ) → Target → Type 0
NamesTarget true text t = t ≡ mini_target
NamesTarget false text t = IfSome text (λ bytes. IsTargetOf bytes t)

-- the target of a word is refused, and nothing is written; the built-in one only where memory runs out
pub record IsTargetRefused (word : List ℕ) (text old new : Option (List ℕ)) (s : Status) (file detail : List ℕ) : Type 0 where
  pub named : is_word word (codes "-") ≡ true → s ≡ status.Memory
  pub file_is : file ≡ word
  pub verdict : IfSome text (λ bytes. TargetVerdict bytes s detail)
  pub unwritten : new ≡ old

-- the documents of a file are treated over the target of a word
pub record IsOverTarget (job : Job) (word f : List ℕ) (contents : List ℕ → Option (List ℕ)) (left old new : Option (List ℕ)) (s : Status) (file detail : List ℕ) : Type 0 where
  pub target : Target
  pub named : NamesTarget (is_word word (codes "-")) (contents word) target
  pub file_is : file ≡ f
  pub streamed : IfSome (contents f) (λ bytes. Streamed job target bytes left old new s detail)

-- what is done for the words of a target and of a file, with files of these contents
abbrev pub DoesJob : Job → List ℕ → List ℕ → (List ℕ → Option (List ℕ)) → Option (List ℕ) → Option (List ℕ) → Option (List ℕ) → Status → List ℕ → List ℕ → Type 0
DoesJob job word f contents left old new s file detail = IsTargetRefused word (contents word) old new s file detail ⊎ IsOverTarget job word f contents left old new s file detail

-- the two files of `check` are compared over the target of a word
pub record ChecksOverTarget (word source allocated : List ℕ) (contents : List ℕ → Option (List ℕ)) (left old new : Option (List ℕ)) (s : Status) (file detail : List ℕ) : Type 0 where
  pub target : Target
  pub named : NamesTarget (is_word word (codes "-")) (contents word) target
  pub checks : ChecksFiles target source allocated contents left old new s file detail

-- what is done for the words of `check`: of a target and of two files
abbrev pub DoesCheck : List ℕ → List ℕ → List ℕ → (List ℕ → Option (List ℕ)) → Option (List ℕ) → Option (List ℕ) → Option (List ℕ) → Status → List ℕ → List ℕ → Type 0
DoesCheck word source allocated contents left old new s file detail =
    IsTargetRefused word (contents word) old new s file detail ⊎ ChecksOverTarget word source allocated contents left old new s file detail

-- whether words ask for anything
abbrev pub asks_anything : Option Asked → Bool
asks_anything None = false
asks_anything (Some asked) = true

-- whether a command tells the watchers
abbrev pub tells_words : Option Asked → Bool
tells_words (Some (Alloc how t f)) = true
tells_words (Some (Trace how t f)) = true
tells_words (Some (Gen seed)) = true
tells_words _ = false

-- what is done for the words of `run`, with the function's name behind some pointer
abbrev pub DoesRun : List ℕ → List ℕ → List ℕ → ℕ → ℕ → (List ℕ → Option (List ℕ)) → Option (List ℕ) → Option (List ℕ) → Option (List ℕ) → Status → List ℕ → List ℕ → Type 0
DoesRun t f g n seed contents left old new s file detail =
    ((s ≡ status.Memory) × (new ≡ old)) ⊎ ((name : Bor (List ℕ)) × (name.now ≡ g) × DoesJob (jobs.Run name n seed) t f contents left old new s file detail)

-- what is done for the words of `gen`
abbrev pub DoesGen : ℕ → Option (List ℕ) → Option (List ℕ) → Status → List ℕ → Type 0
DoesGen seed old new status.Done detail = (text : List ℕ) × IsGenText seed text × WritesAll old new text
DoesGen seed old new status.WriteFault detail = (text : List ℕ) × IsGenText seed text × WritesPart old new text
DoesGen seed old new status.Memory detail = new ≡ old
DoesGen seed old new s detail = GenRefuses seed s detail × (new ≡ old)

abbrev pub Does : Option Asked → (List ℕ → Option (List ℕ)) → Option (List ℕ) → Option (List ℕ) → Option (List ℕ) → Status → List ℕ → List ℕ → Type 0
Does None contents left old new s file detail = ((s ≡ status.Usage) ⊎ (s ≡ status.Memory)) × (new ≡ old)
Does (Some (Alloc how t f)) contents left old new s file detail = DoesJob (jobs.Alloc how) t f contents left old new s file detail
Does (Some (VerifySource t f)) contents left old new s file detail = DoesJob (jobs.Verify forms.Source) t f contents left old new s file detail
Does (Some (VerifyAllocated t f)) contents left old new s file detail = DoesJob (jobs.Verify forms.Allocated) t f contents left old new s file detail
Does (Some (Run t f g n seed)) contents left old new s file detail = DoesRun t f g n seed contents left old new s file detail
Does (Some (Intervals t f)) contents left old new s file detail = DoesJob jobs.Intervals t f contents left old new s file detail
Does (Some (Trace how t f)) contents left old new s file detail = DoesJob (jobs.Trace how) t f contents left old new s file detail
Does (Some (Check t a b)) contents left old new s file detail = DoesCheck t a b contents left old new s file detail
Does (Some (Gen seed)) contents left old new s file detail = DoesGen seed old new s detail × (file ≡ codes "g")

-- it is done, and the line is told of it
pub record DoesAll (asked : Option Asked) (contents : List ℕ → Option (List ℕ)) (left old new : Option (List ℕ)) (old_faults new_faults : ℕ) (err_old err_new : Option (List ℕ)) (s : Status) : Type 0 where
  pub file : List ℕ
  pub detail : List ℕ
  pub does : Does asked contents left old new s file detail
  pub told : IsTold old_faults new_faults err_old err_new (line_of s file detail)

-- the same of a job over a file
pub record DoesJobAll (job : Job) (word f : List ℕ) (contents : List ℕ → Option (List ℕ)) (left old new : Option (List ℕ)) (old_faults new_faults : ℕ) (err_old err_new : Option (List ℕ)) (s : Status) : Type 0 where
  pub file : List ℕ
  pub detail : List ℕ
  pub does : DoesJob job word f contents left old new s file detail
  pub told : IsTold old_faults new_faults err_old err_new (line_of s file detail)

-- the same of `check`
pub record DoesCheckAll (word source allocated : List ℕ) (contents : List ℕ → Option (List ℕ)) (left old new : Option (List ℕ)) (old_faults new_faults : ℕ) (err_old err_new : Option (List ℕ)) (s : Status) : Type 0 where
  pub file : List ℕ
  pub detail : List ℕ
  pub does : DoesCheck word source allocated contents left old new s file detail
  pub told : IsTold old_faults new_faults err_old err_new (line_of s file detail)
