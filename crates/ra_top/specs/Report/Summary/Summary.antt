-- The summary of a generated function.
use Rattle.std.specs.Prelude.{◌≡◌, ℕ, List, ◌++◌, codes, length, count_by}
use Rattle.std.specs.List.{sum_by}
use Rattle.std.specs.Fmt.{decimal}
use Rattle.mir_func.specs.declared.func.Block.{Block}
use Rattle.target_base.specs.declared.types.Target.{Target}
use Rattle.mir_func.specs.Value.{Function}
use Rattle.meaning.specs.Environment.{Environment}
use Rattle.meaning.specs.Code.{run}
use Rattle.mir_meaning.specs.Codes.{meaning_of}
use Rattle.mir_interp.specs.Seeds.{of_seed}
use Rattle.mir_interp.specs.Stands.{StandsFor, Answers}
use Rattle.mir_interp.specs.declared.types.End.{End}
use Rattle.mir_interp.specs.declared.types.End.TheVariants as ends
use Rattle.mir_interp.specs.declared.types.Outcome.{Outcome}
use Rattle.ra_top.specs.declared.report.summary.counts.FuncSize.{FuncSize}
use Rattle.ra_top.specs.declared.report.summary.counts.RunSummary.{RunSummary}

-- the number of instructions of blocks
abbrev pub instr_count : List Block → ℕ
instr_count bs = sum_by (λ b. length b.instrs) bs

-- how much there is of a function
abbrev pub size_of : Function → FuncSize
size_of f = record {
  blocks = length f.blocks;
  instrs = instr_count f.blocks;
  registers = length f.classes;
  slots = count_by (λ frame. frame.1) f.frames;
}

-- what an outcome shows of a run
abbrev pub ran_of : Outcome → RunSummary
ran_of o = record { events = length o.events; end = o.end }

abbrev pub end_word : End → List ℕ
end_word ends.Returned = codes "returned"
end_word ends.Trapped = codes "trapped"
end_word ends.Undefined = codes "undefined"
end_word ends.Steps = codes "steps"

-- `gen SEED`
abbrev pub seed_line : ℕ → List ℕ
seed_line seed = codes "gen " ++ (decimal seed ++ codes "\n")

-- `source blocks B instructions I registers R`
abbrev pub source_line : FuncSize → List ℕ
source_line x =
    codes "source blocks " ++ (decimal x.blocks ++ (codes " instructions " ++ (decimal x.instrs ++ (codes " registers " ++ (decimal x.registers ++ codes "\n")))))

-- `allocated instructions I slots S`
abbrev pub allocated_line : FuncSize → List ℕ
allocated_line x =
    codes "allocated" ++ (codes " instructions " ++ (decimal x.instrs ++ (codes " slots " ++ (decimal x.slots ++ codes "\n"))))

-- `source events E end X`, and likewise for the allocated function
abbrev pub run_line : List ℕ → RunSummary → List ℕ
run_line word x = word ++ (codes " events " ++ (decimal x.events ++ (codes " end " ++ (end_word x.end ++ codes "\n"))))

-- the five lines of a source and of its allocation, and of their runs
abbrev pub summary : ℕ → FuncSize → FuncSize → RunSummary → RunSummary → List ℕ
summary seed source made before after =
    seed_line seed ++ (source_line source ++ (allocated_line made ++ (run_line (codes "source") before ++ run_line (codes "allocated") after)))

-- an outcome has the events and the end of the run of f through n counted instructions, in every environment that
-- stands for the one of a number
abbrev pub IsOutcomeOf : Target → Function → ℕ → ℕ → Outcome → Type 0
IsOutcomeOf t f n seed o = (env : Environment) → StandsFor (of_seed seed) f n env → Answers o (run (meaning_of t f) env n)

-- what the run of f through n counted instructions in the environment of a number came to
pub record IsRanOf (t : Target) (f : Function) (n seed : ℕ) (r : RunSummary) : Type 0 where
  pub outcome : Outcome
  pub runs : IsOutcomeOf t f n seed outcome
  pub is : r ≡ ran_of outcome

-- A text is the summary of f and g, each run through 10,000 counted instructions.
pub record IsSummary (t : Target) (seed : ℕ) (f g : Function) (text : List ℕ) : Type 0 where
  pub before : RunSummary
  pub after : RunSummary
  pub before_is : IsRanOf t f 10000 seed before
  pub after_is : IsRanOf t g 10000 seed after
  pub lines : text ≡ summary seed (size_of f) (size_of g) before after
