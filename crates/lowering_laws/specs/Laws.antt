-- Lowering keeps the meaning.
use Rattle.std.specs.Prelude.{◌≡◌, ◌<◌, true, not, length, None}
use Rattle.std.specs.List.{list_all}
use Rattle.target_base.specs.declared.types.Target.{Target}
use Rattle.mir_func.specs.Value.{Function, IsFunction}
use Rattle.mir_func.specs.Binding.{does, is_lowered_away}
use Rattle.mir_meaning.specs.declared.Form.TheVariants as forms
use Rattle.mir_meaning.specs.Codes.{refines}
use Rattle.mir_meaning.specs.Points.{has_no_phis}
use Rattle.mir_meaning.specs.Valid.{IsValid, shape_fault}
use Rattle.live_laws.specs.Effects.Shaped.{AreClasses}
use Rattle.phi_elim.specs.Phis.{phis_lowered}
use Rattle.two_address.specs.Lowered.{lowered, ties_lowered}
use Rattle.lowering_laws.specs.Form.{is_lowered}

-- the function without phis does what a valid source does
abbrev pub LoweredPhisRefine : Type 0
LoweredPhisRefine = (t : Target) (f : Function) → IsValid t forms.Source f → refines t f (phis_lowered t f)

-- and it has no phi
abbrev pub PhisAreGone : Type 0
PhisAreGone = (t : Target) (f : Function) → has_no_phis t (phis_lowered t f).blocks ≡ true

-- In two-address form a function without phis does what it did. It keeps the rules on instructions and blocks, and its
-- classes are the target's, as those of each function that is read are.
abbrev pub LoweredTiedRefine : Type 0
LoweredTiedRefine = (t : Target) (f : Function) → shape_fault t forms.Source f ≡ None → AreClasses t f → has_no_phis t f.blocks ≡ true → refines t f (ties_lowered t f)

-- Behind it no instruction is a phi, REG_SEQUENCE or INSERT_SUBREG.
abbrev pub NoneLoweredAway : Type 0
NoneLoweredAway = (t : Target) (f : Function) → shape_fault t forms.Source f ≡ None → has_no_phis t f.blocks ≡ true → list_all (λ b. list_all (λ i. not (does is_lowered_away t i)) b.instrs) (ties_lowered t f).blocks ≡ true

-- A valid source behind both passes does what it did. Its classes are the target's.
abbrev pub LoweredRefine : Type 0
LoweredRefine = (t : Target) (f : Function) → IsValid t forms.Source f → AreClasses t f → refines t f (lowered t f)

-- Its ids are distinct and below the next, where it has a block.
abbrev pub IdsAreDistinct : Type 0
IdsAreDistinct = (t : Target) (f : Function) → 0 < length f.blocks → IsFunction (lowered t f).blocks (lowered t f).next_id

-- And each of its instructions is in lowered form.
abbrev pub LoweredForm : Type 0
LoweredForm = (t : Target) (f : Function) → IsValid t forms.Source f → list_all (λ b. list_all (is_lowered t) b.instrs) (lowered t f).blocks ≡ true
