-- Lowering keeps the rules on operands, widths and definitions.
use Rattle.std.specs.Prelude.{◌≡◌, ◌<◌, not, ℕ, true, length, Some, slice_get}
use Rattle.target_base.specs.declared.types.Target.{Target}
use Rattle.meaning.specs.Live.{Among as Member}
use Rattle.mir_func.specs.declared.func.Instr.{Instr}
use Rattle.mir_func.specs.declared.func.Block.{Block}
use Rattle.mir_func.specs.Value.{Function, IsFunction}
use Rattle.mir_func.specs.Binding.{does, is_lowered_away}
use Rattle.mir_meaning.specs.declared.Form.TheVariants as forms
use Rattle.mir_meaning.specs.Rules.{V1, V2, V8, V9, V12}
use Rattle.mir_meaning.specs.Valid.{IsValid}
use Rattle.live_laws.specs.Effects.Coded.{KeepsRules}
use Rattle.live_laws.specs.Effects.Shaped.{AreClasses, IsShaped}
use Rattle.two_address.specs.Lowered.{lowered}

-- the operands of each instruction fit its opcode
abbrev pub LoweredOperands : Type 0
LoweredOperands =
    (t : Target) (f : Function) → IsValid t forms.Source f → AreClasses t f
    → (b : Block) (i : Instr) → Member b (lowered t f).blocks → Member i b.instrs → V1 t (lowered t f) i ≡ true

-- its registers lie in the classes that roles ask for, and what is copied has equal widths
abbrev pub LoweredWidths : Type 0
LoweredWidths =
    (t : Target) (f : Function) → IsValid t forms.Source f → AreClasses t f
    → (b : Block) (i : Instr) → Member b (lowered t f).blocks → Member i b.instrs → V2 t (lowered t f) i ≡ true

-- its definitions are apart from each other and, where they are early, from uses
abbrev pub LoweredDefinitions : Type 0
LoweredDefinitions =
    (t : Target) (f : Function) → IsValid t forms.Source f → AreClasses t f
    → (b : Block) (i : Instr) → Member b (lowered t f).blocks → Member i b.instrs → V12 t forms.Source (lowered t f) i ≡ true

-- so it meets the rules on its operands, widths, classes, indexes and definitions
abbrev pub LoweredShapes : Type 0
LoweredShapes =
    (t : Target) (f : Function) → IsValid t forms.Source f → AreClasses t f
    → (b : Block) (i : Instr) → Member b (lowered t f).blocks → Member i b.instrs → IsShaped t (lowered t f) i

-- and the function those on which liveness rests
abbrev pub LoweredKeepsRules : Type 0
LoweredKeepsRules = (t : Target) (f : Function) → IsValid t forms.Source f → AreClasses t f → KeepsRules t (lowered t f)

-- A function in the form in which ranges are split: ids are distinct; operands, indexes and block numbers meet the rules on
-- which liveness rests; each opcode is known, and none is PHI, REG_SEQUENCE or INSERT_SUBREG; blocks end in their terminators
-- and lead to their successors.
pub record IsLowered (t : Target) (f : Function) : Type 0 where
  pub function : IsFunction f.blocks f.next_id
  pub rules : KeepsRules t f
  pub lowered : (b : Block) (i : Instr) → Member b f.blocks → Member i b.instrs → does (λ e. not (is_lowered_away e)) t i ≡ true
  pub terminators : (b : Block) (j : ℕ) (i : Instr) → Member b f.blocks → slice_get b.instrs j ≡ Some i → V8 t b j i ≡ true
  pub successors : (k : ℕ) (b : Block) → slice_get f.blocks k ≡ Some b → V9 t f k b ≡ true

-- a valid source is in it behind both passes, where it has a block
abbrev pub LoweredIsSplittable : Type 0
LoweredIsSplittable = (t : Target) (f : Function) → IsValid t forms.Source f → AreClasses t f → 0 < length f.blocks → IsLowered t (lowered t f)
