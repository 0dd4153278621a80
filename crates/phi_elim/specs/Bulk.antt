-- How much a function holds.
use Rattle.std.specs.Prelude.{ℕ, ◌+◌, List, length}
use Rattle.std.specs.List.{sum_by}
use Rattle.mir_func.specs.declared.func.Block.{Block}
use Rattle.mir_func.specs.declared.func.Instr.{Instr}
use Rattle.mir_func.specs.Value.{Function}

-- the operands of instructions
abbrev pub operand_count : List Instr → ℕ
operand_count is = sum_by (λ i. length i.operands) is

-- the bulk of a function: its next id and the numbers of its ranges, operands and frame objects
abbrev pub bulk : Function → ℕ
bulk f = f.next_id + length f.classes + length f.frames + sum_by (λ b. operand_count b.instrs) f.blocks
