-- One edit of a matrix's function, and what it leaves.
use Rattle.std.specs.Prelude.{◌≡◌, [], ◌∷◌}
use Rattle.mir_func.specs.declared.func.Operand.TheVariants as operands
use Rattle.mir_func.specs.declared.func.RegOp.{RegOp}
use Rattle.mir_func.specs.declared.func.Gap.{Gap}
use Rattle.edit_laws.specs.Edits.{Edit, Put, all_edited}
use Rattle.live_edits.specs.LiveRuns.{IsExact, MayBeEditedLive}
use Rattle.interference.specs.declared.matrix.Matrix.{Matrix}
use Rattle.interference.specs.EditedMatrix.{StandsClear}
use Rattle.interference.specs.Listed.{KeepsLists}

-- a COPY is put into a gap
abbrev pub put_copy : Gap → RegOp → RegOp → Edit
put_copy gap to from = Put gap (record { 0 = 0 }) (operands.Reg to ∷ operands.Reg from ∷ [])

-- The edit is done, what is live is that of the function then, and the lists are kept where no two ranges clash.
pub record IsEdited (e : Edit) (old new : Matrix) : Type 0 where
  pub exact : MayBeEditedLive old.live (e ∷ []) → IsExact old.live.target (all_edited old.live.func (e ∷ [])) new.live
  pub kept : MayBeEditedLive old.live (e ∷ []) → KeepsLists old → StandsClear new → KeepsLists new
  pub registers : new.registers ≡ old.registers

-- It is refused, and the function, what is live in it, and the lists are as before.
pub record IsRefused (e : Edit) (old new : Matrix) : Type 0 where
  pub exact : MayBeEditedLive old.live (e ∷ []) → IsExact old.live.target old.live.func new.live
  pub kept : MayBeEditedLive old.live (e ∷ []) → KeepsLists old → KeepsLists new
  pub registers : new.registers ≡ old.registers
