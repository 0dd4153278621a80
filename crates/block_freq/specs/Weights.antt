-- Spill weights: what it costs to keep a range in memory, against the points that it takes up.
use Rattle.std.specs.Prelude.{ℕ, Bool, false, ◌+◌, ◌*◌, ◌/◌, ◌&&◌, List, count_by}
use Rattle.std.specs.List.{sum_by, zip}
use Rattle.mir_func.specs.declared.func.Operand.{Operand}
use Rattle.mir_func.specs.declared.func.Operand.TheVariants as operands
use Rattle.mir_func.specs.declared.func.Block.{Block}
use Rattle.mir_func.specs.declared.func.Instr.{Instr}
use Rattle.mir_meaning.specs.Points.{is_range, counts}

-- the operand names the range; `undef` uses don't count
abbrev pub names : ℕ → Operand → Bool
names v (operands.Reg o) = is_range v o.loc && counts o
names v _ = false

-- how many operands of the instruction name the range
abbrev pub naming : ℕ → Instr → ℕ
naming v i = count_by (names v) i.operands

-- the operands of a block that name the range, each as often as the block is entered
abbrev pub block_uses : ℕ → ℕ × Block → ℕ
block_uses v p = sum_by (λ i. p.0 * naming v i) p.1.instrs

-- those of all blocks
abbrev pub use_sum : List Block → List ℕ → ℕ → ℕ
use_sum bs freqs v = sum_by (block_uses v) (zip freqs bs)

-- the spill weight of a range of so many points
abbrev pub weight_of : List Block → List ℕ → ℕ → ℕ → ℕ
weight_of bs freqs v points = 1024 * use_sum bs freqs v / (points + 8)
