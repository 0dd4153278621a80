-- The blocks of a function, line by line.
use Rattle.std.specs.Prelude.{ℕ, Bool, false, List, [], ◌∷◌, ◌++◌, Option, Some, None, length, ◌&&◌, ◌==◌, ◌+◌, is_some, is_none, if◌then◌else◌}
use Rattle.std.specs.List.{sum_by}
use Rattle.std.specs.Option.{option_to_list}
use Rattle.target_base.specs.declared.types.Target.{Target}
use Rattle.target_base.specs.declared.types.Reg.{Reg}
use Rattle.mir_func.specs.declared.func.Block.{Block}
use Rattle.mir_func.specs.declared.func.Edge.{Edge}
use Rattle.mir_func.specs.declared.func.Instr.{Instr}
use Rattle.mir_lines.specs.declared.raw.RawHeader.{RawHeader}
use Rattle.mir_read.specs.declared.body.OpenBlock.{OpenBlock}
use Rattle.mir_meaning.specs.Codes.{falls_through}
use Rattle.mir_func.specs.Binding.{does, is_branch}
use Rattle.mir_meaning.specs.Rules.{named_blocks, branch_targets}
use Rattle.mir_read.specs.Names.{with_number}
use Rattle.mir_read.specs.Resolving.{equal_shares}

-- The blocks that are read, the header of the one that is being read with the lists that it has so far, and its
-- instructions.
pub record BodyValue : Type 0 where
  pub done : List Block
  pub opened : Option OpenBlock
  pub instrs : List Instr
  pub next_id : ℕ

abbrev pub no_blocks : BodyValue
no_blocks = record { done = []; opened = None; instrs = []; next_id = 0 }

abbrev pub is_begun : BodyValue → Bool
is_begun b = is_some b.opened

abbrev pub with_numbers : List ℕ → List ℕ → List ℕ
with_numbers ns [] = ns
with_numbers ns (m ∷ ms) = with_numbers (with_number ns m) ms

-- the blocks that an instruction branches to
abbrev pub targets_of : Target → Instr → List ℕ
targets_of t i = if does is_branch t i then named_blocks i else []

abbrev pub fallen : Bool → Option ℕ → List ℕ
fallen falls next = if falls then option_to_list next else []

-- the blocks that branches go to in order, and then the block that is fallen into, each once
unfoldable pub due_blocks : Target → List Instr → Option ℕ → List ℕ
due_blocks t is next = with_numbers (with_numbers [] (branch_targets t is)) (fallen (falls_through t is) next)

abbrev pub edges_or_due : Option (List Edge) → Target → List Instr → Option ℕ → List Edge
edges_or_due (Some es) t is next = es
edges_or_due None t is next = equal_shares (due_blocks t is next)

abbrev pub regs_or_none : Option (List Reg) → List Reg
regs_or_none None = []
regs_or_none (Some rs) = rs

-- The block of a header, which the block of number next follows. Without a `successors` line its successors are
-- those that its instructions give.
unfoldable pub block_of : Target → OpenBlock → List Instr → Option ℕ → Block
block_of t o is next = record {
  number = o.header.number;
  name = o.header.name;
  attributes = o.header.attributes;
  successors = edges_or_due o.successors t is next;
  liveins = regs_or_none o.liveins;
  instrs = is;
}

abbrev pub closed_in : Target → BodyValue → Option ℕ → Option OpenBlock → BodyValue
closed_in t b next None = b
closed_in t b next (Some o) = record { done = b.done ++ block_of t o b.instrs next ∷ []; opened = None; instrs = []; next_id = b.next_id }

-- the block that is being read ends, and the block of number next follows it
unfoldable pub closed : Target → BodyValue → Option ℕ → BodyValue
closed t b next = closed_in t b next b.opened

abbrev pub opened_by : RawHeader → OpenBlock
opened_by h = record { header = h; successors = None; liveins = None }

-- a header begins a block, and ends the one before
unfoldable pub with_header : Target → BodyValue → RawHeader → BodyValue
with_header t b h = record (closed t b (Some h.number)) { opened = Some (opened_by h) }

abbrev pub lacks_successors : Option OpenBlock → Bool
lacks_successors None = false
lacks_successors (Some o) = is_none o.successors

abbrev pub lacks_liveins : Option OpenBlock → Bool
lacks_liveins None = false
lacks_liveins (Some o) = is_none o.liveins

-- a `successors:` line stands before the block's instructions, and once
unfoldable pub takes_successors : BodyValue → Bool
takes_successors b = lacks_successors b.opened && length b.instrs == 0

unfoldable pub takes_liveins : BodyValue → Bool
takes_liveins b = lacks_liveins b.opened && length b.instrs == 0

abbrev pub with_edges : List Edge → Option OpenBlock → Option OpenBlock
with_edges es None = None
with_edges es (Some o) = Some (record o { successors = Some es })

abbrev pub with_regs : List Reg → Option OpenBlock → Option OpenBlock
with_regs rs None = None
with_regs rs (Some o) = Some (record o { liveins = Some rs })

abbrev pub with_successors : BodyValue → List Edge → BodyValue
with_successors b es = record b { opened = with_edges es b.opened }

abbrev pub with_liveins : BodyValue → List Reg → BodyValue
with_liveins b rs = record b { opened = with_regs rs b.opened }

-- one more instruction
abbrev pub with_instr : BodyValue → Instr → BodyValue
with_instr b i = record b { instrs = b.instrs ++ i ∷ []; next_id = b.next_id + 1 }

-- how many operands there are
abbrev pub operand_count : List Instr → ℕ
operand_count is = sum_by (λ i. length i.operands) is

abbrev pub operands_of : BodyValue → ℕ
operands_of b = sum_by (λ d. operand_count d.instrs) b.done + operand_count b.instrs
