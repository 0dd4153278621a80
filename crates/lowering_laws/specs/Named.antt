-- Behind lowering a range that an instruction names counts there.
use Rattle.std.specs.Prelude.{◌≡◌, ℕ, true}
use Rattle.std.specs.List.{list_any}
use Rattle.target_base.specs.declared.types.Target.{Target}
use Rattle.meaning.specs.Live.{Among as Member}
use Rattle.mir_func.specs.declared.func.Instr.{Instr}
use Rattle.mir_func.specs.declared.func.Block.{Block}
use Rattle.mir_func.specs.Value.{Function}
use Rattle.mir_func.specs.Binding.{registers}
use Rattle.mir_meaning.specs.declared.Form.TheVariants as forms
use Rattle.mir_meaning.specs.Points.{is_range, touches}
use Rattle.mir_meaning.specs.Valid.{IsValid}
use Rattle.live_laws.specs.Effects.Shaped.{AreClasses}
use Rattle.two_address.specs.Lowered.{lowered}

-- the instruction names no range in `undef` uses alone
abbrev pub TouchesItsRanges : Instr → Type 0
TouchesItsRanges i = (w : ℕ) → list_any (λ o. is_range w o.loc) (registers i.operands) ≡ true → touches w i ≡ true

-- no instruction of a valid source behind both passes does, where the classes are the target's
abbrev pub LoweredTouchesNamed : Type 0
LoweredTouchesNamed =
    (t : Target) (f : Function) → IsValid t forms.Source f → AreClasses t f
    → (b : Block) (i : Instr) → Member b (lowered t f).blocks → Member i b.instrs → TouchesItsRanges i
