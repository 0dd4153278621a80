-- What liveness asks of the shape of instructions, and the lanes of slots that have numbers.
use Rattle.std.specs.Prelude.{◌≡◌, ℕ, Bool, true, List, ◌∷◌, nat_eq, Some}
use Rattle.std.specs.List.{list_any}
use Rattle.target_base.specs.declared.types.ClassId.{ClassId}
use Rattle.target_base.specs.declared.types.Target.{Target}
use Rattle.target_base.specs.Registers.{IsClass}
use Rattle.meaning.specs.declared.types.Lane.{Lane}
use Rattle.meaning.specs.declared.types.Lane.TheVariants.{SlotLane}
use Rattle.meaning.specs.Live.{Among as Member}
use Rattle.mir_func.specs.declared.func.RegOp.{RegOp}
use Rattle.mir_func.specs.declared.func.Operand.{Operand}
use Rattle.mir_func.specs.declared.func.Operand.TheVariants as operands
use Rattle.mir_func.specs.declared.func.Instr.{Instr}
use Rattle.mir_func.specs.Value.{Function}
use Rattle.mir_func.specs.Binding.{class_of, does}
use Rattle.mir_meaning.specs.Items.{lanes_beside}
use Rattle.mir_meaning.specs.declared.Form.TheVariants as forms
use Rattle.mir_meaning.specs.Rules.{V1, V2, V3, V4, V12, spills_or_reloads}
use Rattle.mir_meaning.specs.Stands.{Tags}

-- a slot's lane is proper at the width of a unit, and every other lane
abbrev pub is_proper : Target → Lane → Bool
is_proper t (SlotLane s k w) = list_any (λ d. nat_eq d.width w) t.units
is_proper t _ = true

-- the classes of virtual registers are classes of the target
abbrev pub AreClasses : Target → Function → Type 0
AreClasses t f = (v : ℕ) (c : ClassId) → class_of f v ≡ Some c → IsClass t c

-- the instruction meets the rules on its operands, widths, classes, indexes and definitions
pub record IsShaped (t : Target) (f : Function) (i : Instr) : Type 0 where
  pub operands : V1 t f i ≡ true
  pub widths : V2 t f i ≡ true
  pub classes : V3 f i ≡ true
  pub indexes : V4 t f i ≡ true
  pub definitions : V12 t forms.Source f i ≡ true

-- the lanes of the slot that a store or a reload names have numbers
abbrev pub SlotsTagged : Target → Function → Tags → Instr → Type 0
SlotsTagged t f tag i =
    (o : RegOp) (s : ℕ) (k : Operand) (os : List Operand) (l : Lane) → does spills_or_reloads t i ≡ true → i.operands ≡ operands.Reg o ∷ operands.Stack s ∷ k ∷ os → Member l (lanes_beside t f o s k)
    → (n : ℕ) × (tag l ≡ Some n)
