-- What each command says of a document, and why it refuses one.
use Rattle.std.specs.Prelude.{◌≡◌, ◌≤◌, ◌^◌, ◌⊎◌, ℕ, Bool, true, false, List, [], ◌++◌, codes, Some, None, nat_eq}
use Rattle.std.specs.Cmp.Lexicographic.{pointwise}
use Rattle.target_base.specs.declared.types.Target.{Target}
use Rattle.mir_func.specs.Value.{Function}
use Rattle.mir_meaning.specs.declared.Form.{Form}
use Rattle.mir_meaning.specs.declared.Form.TheVariants as forms
use Rattle.mir_meaning.specs.Codes.{meaning_of, refines}
use Rattle.mir_meaning.specs.Valid.{Fault, IsValid, FirstFault}
use Rattle.mir_meaning.specs.Places.{PlacesServe}
use Rattle.meaning.specs.Environment.{Environment}
use Rattle.meaning.specs.Code.{run}
use Rattle.mir_interp.specs.Seeds.{of_seed}
use Rattle.mir_interp.specs.Stands.{StandsFor}
use Rattle.ra_top.specs.Report.Run.Printed.{lines_of_run}
use Rattle.machine_verify.specs.declared.stop.Invalid.{Invalid}
use Rattle.machine_verify.specs.Faults.{fault_of}
use Rattle.machine_verify.specs.Lives.{FitsTarget}
use Rattle.pipeline.specs.Guarded.Limits.{passed_limit}
use Rattle.pipeline.specs.Guarded.Function.{Allocates, IsTextFor, IsTaken, IfRefused}
use Rattle.pipeline.specs.declared.guarded.stop.LimitName.TheVariants as limits
use Rattle.pipeline.specs.declared.guarded.stop.FunctionStop.{FunctionStop}
use Rattle.pipeline.specs.declared.guarded.stop.FunctionStop.TheVariants as stops
use Rattle.mir_text.specs.declared.doc.Doc.{Doc}
use Rattle.mir_text.specs.declared.doc.Doc.TheVariants as docs
use Rattle.block_freq.specs.Frequencies.{frequencies_of}
use Rattle.phi_elim.specs.Bulk.{bulk}
use Rattle.two_address.specs.Lowered.{lowered}
use Rattle.live_edits.specs.declared.fold.Join.{Join}
use Rattle.join_laws.specs.Joined.{Joined}
use Rattle.ra_top.specs.Report.Intervals.Lines.{IsLiveText}
use Rattle.ra_top.specs.declared.commands.answer.Job.{Job}
use Rattle.ra_top.specs.declared.commands.answer.Job.TheVariants as jobs
use Rattle.ra_top.specs.declared.commands.answer.Answer.{Answer}
use Rattle.ra_top.specs.declared.commands.answer.Answer.TheVariants as answers
use Rattle.ra_top.specs.declared.commands.status.Status.{Status}
use Rattle.ra_top.specs.declared.commands.status.Status.TheVariants as status
use Rattle.ra_top.specs.Commands.Status.{invalid_words, unassignable_words}

-- a text is the lines before f and a text for an allocation of f: a function that does all that f does, that is valid in
-- the allocated form, and that names no virtual register
pub record IsAllocation (t : Target) (before : List ℕ) (f : Function) (text : List ℕ) : Type 0 where
  pub func : Function
  pub allocates : Allocates t f func
  pub own : List ℕ
  pub spelled : IsTextFor t func own
  pub written : text ≡ before ++ own

-- the line of a valid function: `valid NAME`
abbrev pub valid_line : List ℕ → List ℕ
valid_line name = codes "valid " ++ (name ++ codes "\n")

-- f is valid in a form, and passes no limit
pub record IsValidLine (t : Target) (form : Form) (f : Function) (text : List ℕ) : Type 0 where
  pub fits : passed_limit f ≡ None
  pub valid : IsValid t form f
  pub line : text ≡ valid_line f.name

-- a function has a name
abbrev pub is_named : List ℕ → Function → Bool
is_named name f = pointwise nat_eq f.name name

-- a function that is valid as a source, or else as an allocated function
abbrev pub IsRunnable : Target → Function → Type 0
IsRunnable t f = IsValid t forms.Source f ⊎ ((x : Fault) × FirstFault t forms.Source f x × IsValid t forms.Allocated f)

-- a text has the events and the end of the run of f through n counted instructions, in every environment that stands
-- for the one of a number
abbrev pub IsTextOfRun : Target → Function → ℕ → ℕ → List ℕ → Type 0
IsTextOfRun t f n seed text = (env : Environment) → StandsFor (of_seed seed) f n env → text ≡ lines_of_run (run (meaning_of t f) env n)

-- a runnable function within the limits is run
pub record IsRunOf (t : Target) (f : Function) (n seed : ℕ) (text : List ℕ) : Type 0 where
  pub fits : passed_limit f ≡ None
  pub valid : IsRunnable t f
  pub run : IsTextOfRun t f n seed text

-- The text, behind a name, is the whole text of a function that is f as it is made ready for the allocator's run: how often its
-- blocks run, and what is live where in it. That function is f lowered, with its copies joined in order by the frequencies of its
-- blocks, and it does what f does.
pub record IsIntervals (t : Target) (f : Function) (name text : List ℕ) : Type 0 where
  pub func : Function
  pub joins : List Join
  pub joined : Joined t (frequencies_of (lowered t f).blocks) (lowered t f) joins func
  pub refines : refines t f func
  pub is : IsLiveText t name (frequencies_of (lowered t f).blocks) func text

-- What is written for a function document where the run of the program goes on: the printed allocation, that the
-- function is valid, what is live where (`IsIntervals`), or nothing where `run` passes over it or `trace` only tells the watchers.
-- For `intervals` and `trace`, as for `alloc`, the function is taken, and each of its places has few enough variables and
-- admits a choice of registers.
abbrev pub IsFunctionText : Job → Target → List ℕ → Function → List ℕ → Type 0
IsFunctionText (jobs.Alloc how) t before f text = IsAllocation t before f text
IsFunctionText (jobs.Verify form) t before f text = IsValidLine t form f text
IsFunctionText (jobs.Run name n seed) t before f text = (is_named name.now f ≡ false) × (text ≡ [])
IsFunctionText jobs.Intervals t before f text = IsTaken t f × PlacesServe t f × IsIntervals t f f.name text
IsFunctionText (jobs.Trace how) t before f text = IsTaken t f × PlacesServe t f × (text ≡ [])

-- what is written for a document that is no function: `alloc` writes its bytes, and the other commands nothing
abbrev pub text_of_lines : Job → List ℕ → List ℕ
text_of_lines (jobs.Alloc how) lines = lines
text_of_lines job lines = []

-- what is written for a document where the run of the program goes on
abbrev pub IsTextOf : Job → Target → Doc → List ℕ → Type 0
IsTextOf job t (docs.Function before f) text = IsFunctionText job t before f text
IsTextOf job t (docs.Ir lines) text = text ≡ text_of_lines job lines
IsTextOf job t (docs.Rest lines) text = text ≡ text_of_lines job lines

-- what is written for the function with which a job ends: `run` ends with the first function of its name
abbrev pub IsLastFunctionText : Job → Target → Function → List ℕ → Type 0
IsLastFunctionText (jobs.Run name n seed) t f text = (is_named name.now f ≡ true) × IsRunOf t f n seed text
IsLastFunctionText job t f text = ⊥

abbrev pub IsLastTextOf : Job → Target → Doc → List ℕ → Type 0
IsLastTextOf job t (docs.Function before f) text = IsLastFunctionText job t f text
IsLastTextOf job t d text = ⊥

-- how a run ends where its file does: a name that no function has is a usage fault
abbrev pub end_status : Job → Status
end_status (jobs.Run name n seed) = status.Usage
end_status job = status.Done

-- what is written where the file ends; that it is the lines of the watchers for `trace` is said by `IsEndOf`
abbrev pub IsEndText : Job → List ℕ → Type 0
IsEndText (jobs.Trace how) text = Unit {0}
IsEndText job text = text ≡ []

-- whether a job tells the watchers
abbrev pub tells : Job → Bool
tells (jobs.Alloc how) = true
tells (jobs.Trace how) = true
tells job = false

-- why `alloc` refuses a function
abbrev pub AllocRefuses : Target → Function → Status → List ℕ → Type 0
AllocRefuses t f (status.Limit l) detail = IfRefused t f (stops.Limit l)
AllocRefuses t f (status.Invalid x) detail = IfRefused t f (stops.Invalid f.name x) × (detail ≡ invalid_words f.name x)
AllocRefuses t f (status.Unassignable p) detail = IfRefused t f (stops.Unassignable f.name p) × (detail ≡ unassignable_words f.name p)
AllocRefuses t f status.NotYet detail = IfRefused t f stops.NotYet
AllocRefuses t f _ detail = ⊥

-- why `intervals` refuses a function: as `alloc` does before its run, so neither for the limit of range numbers nor as not yet
-- allocated
abbrev pub IntervalsRefuses : Target → Function → Status → List ℕ → Type 0
IntervalsRefuses t f (status.Limit limits.Ranges) detail = ⊥
IntervalsRefuses t f status.NotYet detail = ⊥
IntervalsRefuses t f s detail = AllocRefuses t f s detail

-- why `verify` refuses a function: a limit that it passes; within the limits, its first fault
abbrev pub VerifyRefuses : Target → Form → Function → Status → List ℕ → Type 0
VerifyRefuses t form f (status.Limit l) detail = passed_limit f ≡ Some l
VerifyRefuses t form f (status.Invalid x) detail = (passed_limit f ≡ None) × FirstFault t form f (fault_of x) × (detail ≡ invalid_words f.name x)
VerifyRefuses t form f _ detail = ⊥

-- why `run` refuses the function: a limit that it passes; within the limits, its first fault as a source, where it has
-- one as an allocated function too
abbrev pub RunRefuses : Target → Function → Status → List ℕ → Type 0
RunRefuses t f (status.Limit l) detail = passed_limit f ≡ Some l
RunRefuses t f (status.Invalid x) detail =
    (passed_limit f ≡ None) × FirstFault t forms.Source f (fault_of x) × ((y : Fault) × FirstFault t forms.Allocated f y) × (detail ≡ invalid_words f.name x)
RunRefuses t f _ detail = ⊥

-- why a function is refused
abbrev pub FunctionRefuses : Job → Target → Function → Status → List ℕ → Type 0
FunctionRefuses (jobs.Alloc how) t f s detail = AllocRefuses t f s detail
FunctionRefuses (jobs.Verify form) t f s detail = VerifyRefuses t form f s detail
FunctionRefuses (jobs.Run name n seed) t f s detail = (is_named name.now f ≡ true) × RunRefuses t f s detail
FunctionRefuses jobs.Intervals t f s detail = IntervalsRefuses t f s detail
FunctionRefuses (jobs.Trace how) t f s detail = AllocRefuses t f s detail

-- why a document is refused; only functions are
abbrev pub RefusesDoc : Job → Target → Doc → Status → List ℕ → Type 0
RefusesDoc job t (docs.Function before f) s detail = FunctionRefuses job t f s detail
RefusesDoc job t d s detail = ⊥

-- the virtual registers of a document's function are of classes of the target, as those of each document are that is
-- read under it
abbrev pub DocFits : Target → Doc → Type 0
DocFits t (docs.Function before f) = FitsTarget t f
DocFits t d = Unit {0}

-- the bulk of a document's function is at most 2^24, as that of each document is that is read, of at most 2^22 bytes
abbrev pub IsDocWithin : Doc → Type 0
IsDocWithin (docs.Function before f) = bulk f ≤ 2 ^ 24
IsDocWithin d = Unit {0}

abbrev pub IsDocAnswer : Job → Target → Doc → Answer → Type 0
IsDocAnswer job t d (answers.Text text) = IsTextOf job t d text
IsDocAnswer job t d (answers.Last text) = IsLastTextOf job t d text
IsDocAnswer job t d (answers.Refused s detail) = RefusesDoc job t d s detail

abbrev pub IsAllocAnswer : Target → List ℕ → Function → Answer → Type 0
IsAllocAnswer t before f (answers.Text text) = IsAllocation t before f text
IsAllocAnswer t before f (answers.Last text) = ⊥
IsAllocAnswer t before f (answers.Refused s detail) = AllocRefuses t f s detail

abbrev pub IsVerifyAnswer : Target → Form → Function → Answer → Type 0
IsVerifyAnswer t form f (answers.Text text) = IsValidLine t form f text
IsVerifyAnswer t form f (answers.Last text) = ⊥
IsVerifyAnswer t form f (answers.Refused s detail) = VerifyRefuses t form f s detail

abbrev pub IsTraceAnswer : Target → Function → Answer → Type 0
IsTraceAnswer t f (answers.Text text) = IsTaken t f × PlacesServe t f × (text ≡ [])
IsTraceAnswer t f (answers.Last text) = ⊥
IsTraceAnswer t f (answers.Refused s detail) = AllocRefuses t f s detail

abbrev pub IsIntervalsAnswer : Target → Function → Answer → Type 0
IsIntervalsAnswer t f (answers.Text text) = IsTaken t f × PlacesServe t f × IsIntervals t f f.name text
IsIntervalsAnswer t f (answers.Last text) = ⊥
IsIntervalsAnswer t f (answers.Refused s detail) = IntervalsRefuses t f s detail

abbrev pub IsRunAnswer : Target → ℕ → ℕ → Function → Answer → Type 0
IsRunAnswer t n seed f (answers.Text text) = ⊥
IsRunAnswer t n seed f (answers.Last text) = IsRunOf t f n seed text
IsRunAnswer t n seed f (answers.Refused s detail) = RunRefuses t f s detail

abbrev pub IsNamedAnswer : Target → List ℕ → ℕ → ℕ → Function → Answer → Type 0
IsNamedAnswer t name n seed f (answers.Text text) = (is_named name f ≡ false) × (text ≡ [])
IsNamedAnswer t name n seed f (answers.Last text) = (is_named name f ≡ true) × IsRunOf t f n seed text
IsNamedAnswer t name n seed f (answers.Refused s detail) = (is_named name f ≡ true) × RunRefuses t f s detail

-- the answer for a function that isn't valid as a source, with this first fault
abbrev pub IsSecondAnswer : Target → ℕ → ℕ → Function → Invalid → Answer → Type 0
IsSecondAnswer t n seed f x (answers.Text text) = ⊥
IsSecondAnswer t n seed f x (answers.Last text) = IsValid t forms.Allocated f × IsTextOfRun t f n seed text
IsSecondAnswer t n seed f x (answers.Refused s detail) =
    (s ≡ status.Invalid x) × ((y : Fault) × FirstFault t forms.Allocated f y) × (detail ≡ invalid_words f.name x)

-- the status by which a function is refused for a cause, and the detail of its line
abbrev pub IsStatusOf : FunctionStop → Status → List ℕ → Type 0
IsStatusOf (stops.Limit l) s detail = s ≡ status.Limit l
IsStatusOf (stops.Invalid name x) s detail = (s ≡ status.Invalid x) × (detail ≡ invalid_words name x)
IsStatusOf (stops.Unassignable name p) s detail = (s ≡ status.Unassignable p) × (detail ≡ unassignable_words name p)
IsStatusOf stops.NotYet s detail = s ≡ status.NotYet
IsStatusOf (stops.Memory e) s detail = ⊥

-- the answer that refuses a function for a cause
abbrev pub IsRefusalFor : FunctionStop → Answer → Type 0
IsRefusalFor stop (answers.Refused s detail) = IsStatusOf stop s detail
IsRefusalFor stop a = ⊥
