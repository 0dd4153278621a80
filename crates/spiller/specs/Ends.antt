-- The terminators at the end of a block.
use Rattle.std.specs.Prelude.{ℕ, cond, List, [], ◌∷◌, None, Some, drop, slice_get, slice_index}
use Rattle.std.specs.List.{position_or_len}
use Rattle.target_base.specs.declared.types.Target.{Target}
use Rattle.mir_func.specs.declared.func.Instr.{Instr}
use Rattle.mir_func.specs.Binding.{does, is_terminator}
use Rattle.spiller.specs.declared.plan.SpillView.{SpillView}

-- the terminators of a block
abbrev pub ends_of : Target → List Instr → List Instr
ends_of t [] = []
ends_of t (i ∷ is) = cond (does is_terminator t i) (i ∷ is) (ends_of t is)

-- those of the block of an instruction, by its id
abbrev pub block_ends : SpillView → ℕ → List Instr
block_ends view id = elim (slice_get view.live.now.func.blocks (slice_index view.live.now.table.order.block_of.items id)) [
  | None ↦ []
  | Some b ↦ drop (position_or_len (does is_terminator view.target.now) b.instrs) b.instrs
]
