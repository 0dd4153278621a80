-- What watchers are told of the functions of a file, and the lines that they have to show for it.
use Rattle.std.specs.Prelude.{◌≡◌, ℕ, ◌+◌, ◌-◌, ◌^◌, min, zero, suc, List, [], ◌∷◌, ◌++◌, codes}
use Rattle.std.specs.List.{flat_map}
use Rattle.target_base.specs.declared.types.Target.{Target}
use Rattle.mir_text.specs.declared.doc.Doc.{Doc}
use Rattle.mir_text.specs.declared.doc.Doc.TheVariants as docs
use Rattle.watchers.specs.declared.steps.Step.{Step}
use Rattle.watchers.specs.declared.steps.Step.TheVariants.{Begin}
use Rattle.pipeline.specs.Guarded.Told.{ToldRun, ToldPart}
use Rattle.ra_top.specs.declared.commands.spot.DocStart.{DocStart}
use Rattle.ra_top.specs.declared.commands.answer.Job.{Job}
use Rattle.ra_top.specs.declared.commands.answer.Job.TheVariants as jobs
use Rattle.ra_top.specs.declared.commands.answer.Answer.{Answer}
use Rattle.ra_top.specs.declared.commands.answer.Answer.TheVariants as answers
use Rattle.ra_top.specs.Commands.Answer.{IsSpelled}

-- the steps of runs, one run after the other, over functions that are numbered from n on: first of each that it begins
abbrev pub steps_of : ℕ → List (List Step) → List Step
steps_of n [] = []
steps_of n (run ∷ runs) = (Begin n ∷ run) ++ steps_of (n + 1) runs

-- the number behind this one; the greatest is given again and again, and no file has so many functions
abbrev pub next_number : ℕ → ℕ
next_number n = min (n + 1) (2 ^ 32 - 1)

-- What `alloc` and `trace` told the watchers of a document, where n was the number of the next function, and m is it then:
-- of a function one run over that number, and of another document nothing.
abbrev pub ToldDoc : {W : Type 0} → (W → Step → W) → Doc → ℕ → ℕ → List W → List W → Type 0
ToldDoc next (docs.Function before f) n m old new = ToldRun next n old new × (m ≡ next_number n)
ToldDoc next d n m old new = (new ≡ old) × (m ≡ n)

-- the same where there is this answer; where it refuses, each watcher was told a first part of one list of steps
abbrev pub ToldAnswer : {W : Type 0} → (W → Step → W) → Doc → ℕ → ℕ → List W → List W → Answer → Type 0
ToldAnswer next d n m old new (answers.Refused s detail) = ToldPart next old new
ToldAnswer next d n m old new a = ToldDoc next d n m old new

-- the same of a piece, of the document that it spells
abbrev pub ToldPiece : {W : Type 0} → (W → Step → W) → Target → DocStart → List ℕ → ℕ → ℕ → List W → List W → Answer → Type 0
ToldPiece next t spot piece n m old new (answers.Refused s detail) = ToldPart next old new
ToldPiece next t spot piece n m old new a = (d : Doc) × IsSpelled t spot piece d × ToldDoc next d n m old new

-- the same of the answer for one function of a number
abbrev pub ToldOne : {W : Type 0} → (W → Step → W) → ℕ → List W → List W → Answer → Type 0
ToldOne next number old new (answers.Refused s detail) = ToldPart next old new
ToldOne next number old new a = ToldRun next number old new

-- the first n lines of a watcher, each with its newline
abbrev pub first_lines : (ℕ → List ℕ) → ℕ → List ℕ
first_lines text zero = []
first_lines text (suc n) = first_lines text n ++ (text n ++ codes "\n")

-- the lines of watchers, in the order of the list, where these are the number of a watcher's lines and its line of a number
abbrev pub lines_of : {W : Type 0} → (W → ℕ) → (W → ℕ → List ℕ) → List W → List ℕ
lines_of count text watchers = flat_map (λ w. first_lines (text w) (count w)) watchers

-- what is written where the file ends, where these are the lines of the watchers: `trace` writes them, and the other
-- commands nothing
abbrev pub IsEndOf : List ℕ → Job → List ℕ → Type 0
IsEndOf lines (jobs.Trace how) text = text ≡ lines
IsEndOf lines job text = text ≡ []
