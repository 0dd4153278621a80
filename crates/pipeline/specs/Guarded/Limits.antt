-- The limits of one function: 1,024 blocks, 16,384 instructions, 16,384 virtual registers.
use Rattle.std.specs.Prelude.{ℕ, Bool, List, Option, Some, None, length, nat_lt, if◌then◌else◌}
use Rattle.std.specs.List.{sum_by}
use Rattle.mir_func.specs.Value.{Function}
use Rattle.mir_func.specs.declared.func.Block.{Block}
use Rattle.pipeline.specs.declared.guarded.stop.LimitName.{LimitName}
use Rattle.pipeline.specs.declared.guarded.stop.LimitName.TheVariants as limits

abbrev pub instr_count : List Block → ℕ
instr_count bs = sum_by (λ b. length b.instrs) bs

abbrev pub passes_instrs : List Block → Bool
passes_instrs bs = nat_lt 16384 (instr_count bs)

-- the first limit that the function passes
abbrev pub passed_limit : Function → Option LimitName
passed_limit f =
    if nat_lt 1024 (length f.blocks) then Some limits.Blocks
    else (if passes_instrs f.blocks then Some limits.Instructions
    else (if nat_lt 16384 (length f.classes) then Some limits.Registers else None))
