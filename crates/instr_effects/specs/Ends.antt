-- What phis read at the ends of the blocks before their own.
use Rattle.std.specs.Prelude.{ℕ, cond, List, [], ◌∷◌, Option, None, Some, slice_get, option_and_then}
use Rattle.target_base.specs.declared.types.Target.{Target}
use Rattle.target_base.specs.Rules.{is_phi}
use Rattle.mir_func.specs.declared.func.RegOp.{RegOp}
use Rattle.mir_func.specs.declared.func.Operand.{Operand}
use Rattle.mir_func.specs.declared.func.Operand.TheVariants as operands
use Rattle.mir_func.specs.declared.func.Instr.{Instr}
use Rattle.mir_func.specs.Binding.{does, register_at}

-- the uses of a phi, each with the block at whose end it reads
abbrev pub pairs_of : List Operand → List (RegOp × ℕ)
pairs_of (operands.Reg s ∷ operands.Block n ∷ os) = (s, n) ∷ pairs_of os
pairs_of _ = []

-- the same behind the result
abbrev pub pairs_behind : List Operand → List (RegOp × ℕ)
pairs_behind (operands.Reg d ∷ os) = pairs_of os
pairs_behind _ = []

-- what an instruction reads at the ends of other blocks: a phi its uses
abbrev pub end_uses : Target → Instr → List (RegOp × ℕ)
end_uses t i = cond (does is_phi t i) (pairs_behind i.operands) []

-- the operand as a block, where it is one
abbrev pub as_block : Operand → Option ℕ
as_block (operands.Block n) = Some n
as_block _ = None

-- the block at a place, if one is
abbrev pub block_at : List Operand → ℕ → Option ℕ
block_at os k = option_and_then as_block (slice_get os k)

-- the use and the block that stand first, if they do
abbrev pub first_pair : List Operand → Option (RegOp × ℕ)
first_pair os = elim (register_at os 0) [ None ↦ None | Some s ↦ elim (block_at os 1) [ None ↦ None | Some n ↦ Some (s, n) ] ]
