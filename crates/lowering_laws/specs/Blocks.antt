-- Lowering keeps the rules on blocks.
use Rattle.std.specs.Prelude.{◌≡◌, ℕ, true, not, None, Some, slice_get}
use Rattle.target_base.specs.declared.types.Target.{Target}
use Rattle.meaning.specs.Live.{Among as Member}
use Rattle.mir_func.specs.declared.func.Instr.{Instr}
use Rattle.mir_func.specs.declared.func.Block.{Block}
use Rattle.mir_func.specs.Value.{Function}
use Rattle.mir_func.specs.Binding.{does, is_lowered_away}
use Rattle.mir_meaning.specs.declared.Form.TheVariants as forms
use Rattle.mir_meaning.specs.Rules.{V3, V4, V5, V8, V9}
use Rattle.mir_meaning.specs.Valid.{IsValid, shape_fault}
use Rattle.live_laws.specs.Effects.Shaped.{AreClasses}
use Rattle.phi_elim.specs.Phis.{phis_lowered}
use Rattle.two_address.specs.Lowered.{lowered}

-- block numbers differ, and those that are named are there; blocks end in their terminators; they lead to their successors
pub record KeepsBlockRules (t : Target) (f : Function) : Type 0 where
  pub five : (k : ℕ) (b : Block) → slice_get f.blocks k ≡ Some b → V5 f k b ≡ true
  pub eight : (b : Block) (j : ℕ) (i : Instr) → Member b f.blocks → slice_get b.instrs j ≡ Some i → V8 t b j i ≡ true
  pub nine : (k : ℕ) (b : Block) → slice_get f.blocks k ≡ Some b → V9 t f k b ≡ true

-- the function without phis keeps them
abbrev pub PhisKeepBlockRules : Type 0
PhisKeepBlockRules = (t : Target) (f : Function) → shape_fault t forms.Source f ≡ None → KeepsBlockRules t (phis_lowered t f)

-- and so does the function in lowered form, where the classes are the target's
abbrev pub LoweredKeepBlockRules : Type 0
LoweredKeepBlockRules = (t : Target) (f : Function) → IsValid t forms.Source f → AreClasses t f → KeepsBlockRules t (lowered t f)

-- its classes are the target's, where those of the source are
abbrev pub LoweredClasses : Type 0
LoweredClasses = (t : Target) (f : Function) → AreClasses t f → AreClasses t (lowered t f)

-- each of its opcodes is known, and none is PHI, REG_SEQUENCE or INSERT_SUBREG
abbrev pub LoweredOpcodes : Type 0
LoweredOpcodes =
    (t : Target) (f : Function) → IsValid t forms.Source f → AreClasses t f
    → (b : Block) (i : Instr) → Member b (lowered t f).blocks → Member i b.instrs → does (λ e. not (is_lowered_away e)) t i ≡ true

-- each register that an instruction names has a class, and its index fits it
abbrev pub LoweredNames : Type 0
LoweredNames =
    (t : Target) (f : Function) → IsValid t forms.Source f → AreClasses t f
    → (b : Block) (i : Instr) → Member b (lowered t f).blocks → Member i b.instrs → (V3 (lowered t f) i ≡ true) × (V4 t (lowered t f) i ≡ true)
