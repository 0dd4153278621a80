-- What the proof asks of a function.
use Rattle.std.proofs.Common.{◌≡◌, ◌<◌, ℕ, true, false, Some, length}
use Rattle.target_base.specs.declared.types.IndexId.{IndexId}
use Rattle.target_base.specs.declared.types.Target.{Target}
use Rattle.target_base.specs.Registers.{lanes_of}
use Rattle.meaning.specs.Layout.{LaidOut}
use Rattle.meaning.specs.Live.{Among as Member}
use Rattle.mir_func.specs.declared.func.Loc.TheVariants.{Virtual}
use Rattle.mir_func.specs.declared.func.RegOp.{RegOp}
use Rattle.mir_func.specs.declared.func.Instr.{Instr}
use Rattle.mir_func.specs.declared.func.Block.{Block}
use Rattle.mir_func.specs.Value.{Function, IsFunction}
use Rattle.mir_func.specs.Binding.{does, is_lowered_away, registers}
use Rattle.mir_meaning.specs.Registers.{range_widths}
use Rattle.mir_meaning.specs.Points.{points_of}
use Rattle.mir_meaning.specs.Renaming.{IsFixed}

-- The operand names a virtual register that the function has, through an index that has lanes of it alone, or a physical
-- one; an implicit operand names a physical one.
pub record IsNamed (t : Target) (f : Function) (o : RegOp) : Type 0 where
  pub range : (w : ℕ) → o.loc ≡ Virtual w → w < length f.classes
  pub index : (w : ℕ) (x : IndexId) (k : ℕ) → o.loc ≡ Virtual w → o.index ≡ Some x → Member k (lanes_of t x) → k < length (range_widths t f w)
  pub implicit : o.implicit ≡ true → IsFixed o.loc

-- ids are distinct, nothing is left that lowering takes away, registers are named, and blocks are laid out as runs go
pub record Suits (t : Target) (f : Function) : Type 0 where
  pub function : IsFunction f.blocks f.next_id
  pub lowered : (b : Block) (i : Instr) → Member b f.blocks → Member i b.instrs → does is_lowered_away t i ≡ false
  pub named : (b : Block) (i : Instr) (o : RegOp) → Member b f.blocks → Member i b.instrs → Member o (registers i.operands) → IsNamed t f o
  pub laid_out : LaidOut (points_of t f) (points_of t f)
