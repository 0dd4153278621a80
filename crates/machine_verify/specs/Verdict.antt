-- What the verifiers say.
use Rattle.std.specs.Prelude.{◌≡◌, ◌⊎◌, false, Some, None}
use Rattle.std.specs.List.{list_any}
use Rattle.target_base.specs.declared.types.Target.{Target}
use Rattle.mir_func.specs.Value.{Function}
use Rattle.mir_meaning.specs.declared.Form.{Form}
use Rattle.mir_meaning.specs.declared.Form.TheVariants as forms
use Rattle.mir_meaning.specs.Valid.{Fault, IsValid, LiveFault, shape_fault, names_virtual}
use Rattle.machine_verify.specs.Faults.{fault_of}
use Rattle.machine_verify.specs.Lives.{FitsTarget}
use Rattle.machine_verify.specs.declared.stop.VerifyStop.{VerifyStop}
use Rattle.machine_verify.specs.declared.stop.VerifyStop.TheVariants as stops

-- in the allocated form no virtual register is named
abbrev pub NamesNone : Form → Function → Type 0
NamesNone forms.Source f = Unit {0}
NamesNone forms.Allocated f = list_any names_virtual f.blocks ≡ false

-- an accepted function keeps all rules but V13 and, in the source form, V14; where its registers are of classes of the target, it keeps these too
pub record IsAccepted (t : Target) (form : Form) (f : Function) : Type 0 where
  pub shape : shape_fault t form f ≡ None
  pub named : NamesNone form f
  pub valid : FitsTarget t f → IsValid t form f

-- a fault of V13 or V14, at the first place of a block
pub record IsLate (fault : Fault) : Type 0 where
  pub place : fault.0.at ≡ 0
  pub rule : (fault.1 ≡ 13) ⊎ (fault.1 ≡ 14)

-- a fault that is told is the first place and the least rule of those but V13 and V14; one of V13 or V14 is told
-- only where all others hold, and is the first of them where the function's registers are of classes of the target
pub data IsFault (t : Target) (form : Form) (f : Function) (fault : Fault) : Type 0 where
  of_shape : shape_fault t form f ≡ Some fault → IsFault t form f fault
  of_liveness : shape_fault t form f ≡ None → IsLate fault → (FitsTarget t f → LiveFault t form f fault) → IsFault t form f fault

-- where a rule fails, this holds of the place and the rule
abbrev pub IfInvalid : (Fault → Type 0) → VerifyStop → Type 0
IfInvalid P (stops.Invalid x) = P (fault_of x)
IfInvalid P (stops.Memory e) = Unit {0}
