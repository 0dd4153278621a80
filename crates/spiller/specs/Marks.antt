-- The instructions that touch the range, one after the other, as a plan is made along them.
use Rattle.std.specs.Prelude.{◌≡◌, ℕ, Bool, true, false, cond, nat_eq, List, [], ◌∷◌, ◌++◌, Option, Some, None, flat_map, slice_get}
use Rattle.target_base.specs.declared.types.Target.{Target}
use Rattle.mir_func.specs.declared.func.Instr.{Instr}
use Rattle.mir_func.specs.declared.func.Block.{Block}
use Rattle.mir_func.specs.Value.{Function}
use Rattle.mir_func.specs.Binding.{does, is_terminator}
use Rattle.mir_meaning.specs.Points.{touches}
use Rattle.spiller.specs.declared.plan.SpillView.{SpillView}
use Rattle.spiller.specs.declared.remat.Remat.{Remat}
use Rattle.spiller.specs.Ends.{ends_of}
use Rattle.spiller.specs.Readings.{goes_in, source_in}
use Rattle.spiller.specs.Placing.{Spillable}
use Rattle.spiller.specs.Reaching.{Facts}
use Rattle.spiller.specs.Setting.{Spilling}
use Rattle.spiller.specs.Views.{Planned}
use Rattle.spiller.specs.WholePlan.{with_place}

-- what the plan for a range rests on: it may be spilled, these are the facts of the function, and the answers of what is rematerialised are the definition's
abbrev pub MayPlan : SpillView → Remat → Facts → Type 0
MayPlan view remat facts = Spillable view facts (source_in remat) (goes_in remat)

-- an instruction that touches the range, with its block and with those behind it
pub record Mark : Type 0 where
  pub block : Block
  pub instr : Instr
  pub left : List Instr

abbrev pub marks_from : ℕ → Block → List Instr → List Mark
marks_from v b [] = []
marks_from v b (i ∷ is) = cond (touches v i) (record { block = b; instr = i; left = is } ∷ marks_from v b is) (marks_from v b is)

abbrev pub all_marks : ℕ → List Block → List Mark
all_marks v bs = flat_map (λ b. marks_from v b b.instrs) bs

-- the terminators of the block of that number are planned
abbrev pub has_ended : Option ℕ → Block → Bool
has_ended None b = false
has_ended (Some n) b = nat_eq n b.number

-- the block whose terminators are planned behind such an instruction
abbrev pub ended_behind : Target → Option ℕ → Mark → Option ℕ
ended_behind t ended m = cond (does is_terminator t m.instr) (Some m.block.number) ended

-- the plan with what becomes of its place, where that isn't planned yet
abbrev pub with_mark : Spilling → Option ℕ → Mark → Planned → Planned
with_mark s ended m p =
    cond (does is_terminator s.target m.instr)
    (cond (has_ended ended m.block) p (with_place s m.block (ends_of s.target m.block.instrs) [] p))
    (with_place s m.block (m.instr ∷ []) m.left p)

abbrev pub with_marks : Spilling → Option ℕ → List Mark → Planned → Planned
with_marks s ended [] p = p
with_marks s ended (m ∷ ms) p = with_marks s (ended_behind s.target ended m) ms (with_mark s ended m p)

-- it stands in a block of the function
pub record IsMark (f : Function) (v : ℕ) (m : Mark) : Type 0 where
  pub position : ℕ
  pub there : slice_get f.blocks position ≡ Some m.block
  pub before : List Instr
  pub instrs : m.block.instrs ≡ before ++ m.instr ∷ m.left
  pub touched : touches v m.instr ≡ true
