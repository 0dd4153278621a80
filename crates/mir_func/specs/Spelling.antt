-- How operands that are no registers are spelled, and what an opaque instruction shows of itself. A number that the target
-- doesn't have is spelled as nothing.
use Rattle.std.specs.Prelude.{ℕ, List, [], ◌++◌, codes, Option, Some, None, flat_map, slice_get}
use Rattle.std.specs.Fmt.{decimal, signed_decimal}
use Rattle.target_base.specs.declared.types.IndexId.{IndexId}
use Rattle.target_base.specs.declared.types.MaskId.{MaskId}
use Rattle.target_base.specs.declared.types.Target.{Target}
use Rattle.mir_func.specs.declared.func.Op.{Op}
use Rattle.mir_func.specs.declared.func.Op.TheVariants as ops
use Rattle.mir_func.specs.declared.func.Operand.{Operand}
use Rattle.mir_func.specs.declared.func.Operand.TheVariants as operands
use Rattle.mir_func.specs.declared.func.Instr.{Instr}

abbrev pub index_name : Target → IndexId → List ℕ
index_name t i = elim (slice_get t.indexes i.0) [ None ↦ [] | Some d ↦ d.name ]

abbrev pub mask_name : Target → MaskId → List ℕ
mask_name t m = elim (slice_get t.masks m.0) [ None ↦ [] | Some d ↦ d.name ]

abbrev pub op_name : Target → Op → List ℕ
op_name t (ops.Known o) = elim (slice_get t.opcodes o.0) [ None ↦ [] | Some d ↦ d.name ]
op_name t (ops.Excluded name) = name

-- an operand that is no register and no block
abbrev pub spelling_of : Target → Operand → Option (List ℕ)
spelling_of t (operands.Reg o) = None
spelling_of t (operands.Block n) = None
spelling_of t (operands.Imm z) = Some (signed_decimal z)
spelling_of t (operands.Stack n) = Some (codes "%stack." ++ decimal n)
spelling_of t (operands.FixedStack n) = Some (codes "%fixed-stack." ++ decimal n)
spelling_of t (operands.Symbol name) = Some name
spelling_of t (operands.Index i) = Some (codes "%subreg." ++ index_name t i)
spelling_of t (operands.Mask m) = Some (mask_name t m)

-- a space and the spelling; nothing for a register or a block
abbrev pub word_of : Target → Operand → List ℕ
word_of t o = elim (spelling_of t o) [ None ↦ [] | Some text ↦ codes " " ++ text ]

-- what an opaque instruction shows of itself: its opcode, and each such operand in order, one space between
abbrev pub event_name : Target → Instr → List ℕ
event_name t i = op_name t i.op ++ flat_map (word_of t) i.operands
