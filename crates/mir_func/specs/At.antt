-- Instructions by the position of their block and their place in it, and edits there. Where there is no such block or no such
-- instruction, nothing is changed.
use Rattle.std.specs.Prelude.{ℕ, Bool, false, List, [], Option, None, Some, length, ◌+◌, ◌-◌, ◌^◌, ◌==◌, ◌&&◌, nat_lt, cond, slice_get}
use Rattle.std.specs.Option.{option_map_or}
use Rattle.std.specs.List.{insert, remove}
use Rattle.target_base.specs.declared.types.OpId.{OpId}
use Rattle.mir_func.specs.declared.func.Block.{Block}
use Rattle.mir_func.specs.declared.func.Instr.{Instr}
use Rattle.mir_func.specs.declared.func.Op.{Op}
use Rattle.mir_func.specs.declared.func.Operand.{Operand}
use Rattle.mir_func.specs.Value.{Function}
use Rattle.mir_func.specs.Edits.{made, update}

-- the instructions of the block at a position
abbrev pub instrs_at : List Block → ℕ → List Instr
instrs_at bs position = option_map_or (λ b. b.instrs) (slice_get bs position) []

-- the instruction at a place of the block at a position
abbrev pub instr_at : List Block → ℕ → ℕ → Option Instr
instr_at bs position place = slice_get (instrs_at bs position) place

-- the block with one more instruction before that at a place, or last
abbrev pub put_at : ℕ → Instr → Block → Block
put_at place x b = record b { instrs = insert b.instrs place x }

-- the block without the instruction at a place
abbrev pub cut_at : ℕ → Block → Block
cut_at place b = record b { instrs = remove b.instrs place }

-- the block whose instruction at a place is changed
abbrev pub changed_at : ℕ → (Instr → Instr) → Block → Block
changed_at place f b = record b { instrs = update place f b.instrs }

-- there is such a block, and the next id and the one behind it fit 32 bits
abbrev pub has_room_at : Function → ℕ → Bool
has_room_at f position = nat_lt position (length f.blocks) && nat_lt (f.next_id + 1) (2 ^ 32)

-- the function with a new instruction before that at a place of the block at a position, or last, where there is room
abbrev pub inserted_at : Function → ℕ → ℕ → OpId → List Operand → Function
inserted_at f position place op operands = cond (has_room_at f position) (record f {
  blocks = update position (put_at place (made f.next_id op operands)) f.blocks;
  next_id = f.next_id + 1;
}) f

-- the function without the instruction at a place of the block at a position
abbrev pub removed_at : Function → ℕ → ℕ → Function
removed_at f position place = record f { blocks = update position (cut_at place) f.blocks }

-- the instruction has the id that was given last
abbrev pub has_last_id : Function → Option Instr → Bool
has_last_id f None = false
has_last_id f (Some i) = i.id + 1 == f.next_id

-- the function without that instruction, where it has the id that was given last, which then is the next one again
abbrev pub retracted_at : Function → ℕ → ℕ → Function
retracted_at f position place = cond (has_last_id f (instr_at f.blocks position place)) (record f {
  blocks = update position (cut_at place) f.blocks;
  next_id = f.next_id - 1;
}) f

-- the opcode and the operands of an instruction
abbrev pub operation : Instr → Op × List Operand
operation i = (i.op, i.operands)

-- the instruction with another opcode and other operands; its id, flags and tail stay
abbrev pub with_operation : Op → List Operand → Instr → Instr
with_operation op operands i = record i { op = op; operands = operands }

-- the function whose instruction at a place of the block at a position has them
abbrev pub replaced_at : Function → ℕ → ℕ → Op → List Operand → Function
replaced_at f position place op operands = record f { blocks = update position (changed_at place (with_operation op operands)) f.blocks }
