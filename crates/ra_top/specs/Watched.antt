-- What watchers are told of a file, and what `trace` writes of it.
use Rattle.std.specs.Prelude.{◌≡◌, ◌⊎◌, ℕ, Bool, true, false, List, [], length, Option, Some, IfSome, codes}
use Rattle.std.specs.List.{All}
use Rattle.target_base.specs.declared.types.Target.{Target}
use Rattle.target_base.specs.Mini.{mini_target}
use Rattle.mir_func.specs.Value.{Function}
use Rattle.watchers.specs.declared.steps.Step.{Step as RunStep}
use Rattle.watchers.specs.Told.{AllTold}
use Rattle.greedy_core.specs.Bounds.{AreBounded}
use Rattle.ra_top.specs.Devices.Device.{WritesPart, WritesAll}
use Rattle.ra_top.specs.Words.Words.{Asked, Alloc, Trace, Gen, is_word}
use Rattle.pipeline.specs.Guarded.Told.{ToldRun, ToldPart}
use Rattle.ra_top.specs.declared.commands.answer.Job.{Job}
use Rattle.ra_top.specs.declared.commands.answer.Job.TheVariants as jobs
use Rattle.ra_top.specs.declared.commands.status.Status.{Status}
use Rattle.ra_top.specs.declared.commands.status.Status.TheVariants as status
use Rattle.ra_top.specs.Commands.Told.{steps_of}
use Rattle.ra_top.specs.Checked.{IsRead}
use Rattle.ra_top.specs.declared.ending.StreamStep.{StreamStep}
use Rattle.ra_top.specs.declared.ending.StreamStep.TheVariants as steps
use Rattle.ra_top.specs.Told.{NamesTarget}

-- the status isn't that all was done
abbrev pub IsUndone : Status → Type 0
IsUndone status.Done = ⊥
IsUndone s = Unit {0}

-- the pieces of a file, to its end, spell documents, and these are their functions, in order
abbrev pub AreFunctionsOf : Target → List ℕ → List Function → Type 0
AreFunctionsOf t file fs = IsRead (λ f. Unit {0}) t file fs

module _ {W : Type 0} (next : W → RunStep → W) where
  -- Of a file, where it is told what it holds, each watcher was told one run for each of its functions, in order, which are
  -- numbered from 0 on: all steps of these runs, one run after the other, and nothing else. Behind the beginning of a run
  -- none of its steps begins another one; among them each range is spilled at most once, and tinies are placed at most as
  -- often as there are tinies.
  pub record ToldFile (t : Target) (file : Option (List ℕ)) (old new : List W) : Type 0 where
    pub functions : List Function
    pub read : IfSome file (λ bytes. AreFunctionsOf t bytes functions)
    pub runs : List (List RunStep)
    pub each : length runs ≡ length functions
    pub bounded : All AreBounded runs
    pub told : AllTold next (steps_of 0 runs) old new

-- What the watchers were told of a file by the time that a run ends with a status: with Done a run for each of its functions;
-- else each a first part of one list of steps.
abbrev pub ToldAs : {W : Type 0} → (W → RunStep → W) → Target → Option (List ℕ) → List W → List W → Status → Type 0
ToldAs next t file old new status.Done = ToldFile next t file old new
ToldAs next t file old new s = ToldPart next old new

-- the same for the word of a target, where its file holds this text: nothing where the target is refused
abbrev pub ToldJob : {W : Type 0} → (Target → W → RunStep → W) → List ℕ → Option (List ℕ) → Option (List ℕ) → List W → List W → Status → Type 0
ToldJob next word text file old new s =
    (IsUndone s × (new ≡ old)) ⊎ ((t : Target) × NamesTarget (is_word word (codes "-")) text t × ToldAs (next t) t file old new s)

-- the same for `gen`: with Done the one run over the function of number 0
abbrev pub ToldGen : {W : Type 0} → (W → RunStep → W) → List W → List W → Status → Type 0
ToldGen next old new status.Done = ToldRun next 0 old new
ToldGen next old new s = ToldPart next old new

-- what the watchers were told for words, with files of these contents
abbrev pub ToldWords : {W : Type 0} → (Target → W → RunStep → W) → Option Asked → (List ℕ → Option (List ℕ)) → List W → List W → Status → Type 0
ToldWords next (Some (Alloc how t f)) contents old new s = ToldJob next t (contents t) (contents f) old new s
ToldWords next (Some (Trace how t f)) contents old new s = ToldJob next t (contents t) (contents f) old new s
ToldWords next (Some (Gen seed)) contents old new s = ToldGen (next mini_target) old new s
ToldWords next asked contents old new s = new ≡ old

-- a fact holds where the job is one that tells the watchers
abbrev pub IfTells : Job → Type 0 → Type 0
IfTells (jobs.Alloc how) P = P
IfTells (jobs.Trace how) P = P
IfTells job P = Unit {0}

abbrev pub is_trace : Job → Bool
is_trace (jobs.Trace how) = true
is_trace job = false

abbrev pub asks_trace : Option Asked → Bool
asks_trace (Some (Trace how t f)) = true
asks_trace asked = false

-- What `trace` has written by the time that it ends with a status, where these are the lines of the watchers: with Done
-- these lines, with WriteFault a first part of them, and else nothing.
abbrev pub WritesLines : List ℕ → Option (List ℕ) → Option (List ℕ) → Status → Type 0
WritesLines lines old new status.Done = WritesAll old new lines
WritesLines lines old new status.WriteFault = WritesPart old new lines
WritesLines lines old new s = WritesAll old new []

-- the same of a step; nothing is written where it goes on
abbrev pub TracesStep : List ℕ → Option (List ℕ) → Option (List ℕ) → StreamStep → Type 0
TracesStep lines old new steps.More = WritesAll old new []
TracesStep lines old new (steps.End e) = WritesLines lines old new e.status
