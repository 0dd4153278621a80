-- The hints of instructions at their places, and what they rest on.
use Rattle.std.specs.Prelude.{ℕ, Bool, true, not, ◌&&◌, ◌||◌, nat_lt, List, [], ◌∷◌, Option, Some, None, option_map, slice_index}
use Rattle.std.specs.List.{list_all}
use Rattle.target_base.specs.declared.types.Reg.{Reg}
use Rattle.target_base.specs.declared.types.Target.{Target}
use Rattle.target_base.specs.Storage.{holds_reg, is_unreserved}
use Rattle.target_base.specs.Rules.{is_copy}
use Rattle.mir_func.specs.declared.func.Instr.{Instr}
use Rattle.mir_func.specs.declared.func.Block.{Block}
use Rattle.mir_func.specs.Value.{Function}
use Rattle.mir_func.specs.Binding.{does, registers}
use Rattle.mir_meaning.specs.Points.{counts}
use Rattle.interference.specs.declared.matrix.Matrix.{Matrix}
use Rattle.interference.specs.Clashes.{register_in}
use Rattle.evictor.specs.Candidates.{Assignment, hinted}

-- the registers of the assigned ranges of a matrix
abbrev pub assignment_of : Matrix → Assignment
assignment_of m w = register_in m.registers.items w

-- a copy reads no `undef` register
abbrev pub counts_if_copy : Target → Instr → Bool
counts_if_copy t i = not (does is_copy t i) || list_all counts (registers i.operands)

-- no copy does, as no copy that is left of lowering does
abbrev pub copies_count : Target → List Block → Bool
copies_count t bs = list_all (λ b. list_all (counts_if_copy t) b.instrs) bs

-- the hint of an instruction there, with the frequency of its block
abbrev pub hint_at : Target → Function → Assignment → List ℕ → ℕ → ℕ × Instr → Option (ℕ × Reg)
hint_at t f a freqs v s = option_map (λ r. (slice_index freqs s.0, r)) (hinted t f a v s.1)

-- the first hint is of the more frequent copy
abbrev pub is_more_frequent : ℕ × Reg → ℕ × Reg → Bool
is_more_frequent g h = nat_lt h.0 g.0

-- the register isn't the one that was put first
abbrev pub is_other : Option Reg → Reg → Bool
is_other None q = true
is_other (Some r) q = not (holds_reg (r ∷ []) q)

-- an unreserved register other than that one
abbrev pub follows : Target → Option Reg → Reg → Bool
follows t first q = is_unreserved t.reserved t.regs q && is_other first q
