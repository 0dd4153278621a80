-- Instructions at their places, and how often they use a range.
use Rattle.std.specs.Prelude.{◌≡◌, ℕ, ◌+◌, ◌*◌, ◌-◌, ◌^◌, min, length, List, Some, slice_get, slice_index}
use Rattle.std.specs.List.{sum_by}
use Rattle.mir_func.specs.declared.func.Instr.{Instr}
use Rattle.mir_func.specs.declared.func.Block.{Block}
use Rattle.block_freq.specs.Weights.{naming, use_sum}

-- the instruction stands in the block at that position
abbrev pub IsSpot : List Block → ℕ × Instr → Type 0
IsSpot bs s = (b : Block) × (j : ℕ) × (slice_get bs s.0 ≡ Some b) × (slice_get b.instrs j ≡ Some s.1)

-- the operands there that name the range, each as often as the block is entered
abbrev pub uses_at : List ℕ → ℕ → ℕ × Instr → ℕ
uses_at freqs v s = slice_index freqs s.0 * naming v s.1

-- the use sum of a range, or the greatest number of 128 bits
abbrev pub IsUseSum : List Block → List ℕ → ℕ → ℕ → Type 0
IsUseSum bs freqs v n = n ≡ min (use_sum bs freqs v) (2 ^ 128 - 1)

-- the points of a block: its start, and the entry and the exit of each instruction
abbrev pub points_of : Block → ℕ
points_of b = 1 + 2 * length b.instrs

abbrev pub points_in : List Block → ℕ
points_in bs = sum_by points_of bs
