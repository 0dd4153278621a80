-- Lanes that have numbers keep them while further ones get some.
use Rattle.std.specs.Prelude.{◌≡◌, ℕ, true, cond, nat_eq, nat_lt, List, ◌++◌, Option, Some, None, slice_get}
use Rattle.target_base.specs.declared.types.ClassId.{ClassId}
use Rattle.target_base.specs.declared.types.Target.{Target}
use Rattle.meaning.specs.Live.{Among}
use Rattle.mir_func.specs.declared.func.Block.{Block}
use Rattle.mir_func.specs.declared.func.Instr.{Instr}
use Rattle.mir_func.specs.Value.{Function}
use Rattle.mir_meaning.specs.Rules.{V8}
use Rattle.instr_effects.specs.declared.owner.Owner.{Owner}
use Rattle.instr_effects.specs.declared.owner.Owner.TheVariants as owners
use Rattle.instr_effects.specs.Numbered.{number_in, KeepsNumbers, NumbersAll}
use Rattle.instr_effects.specs.Row.{lane_in}
use Rattle.instr_effects.specs.Steps.{Numbering}
use Rattle.live_lanes.specs.declared.table.Table.{Table}
use Rattle.live_lanes.specs.Doing.{IsComputed}
pub use Rattle.live_lanes.specs.Further.{HasFurtherLanes}
use Rattle.live_laws.specs.Effects.Coded.{KeepsRules}
use Rattle.edit_laws.specs.Numbers.{DoesSame}

-- no instruction stands behind a terminator but terminators
abbrev pub KeepsLast : Target → Function → Type 0
KeepsLast t f = (b : Block) (j : ℕ) (i : Instr) → Among b f.blocks → slice_get b.instrs j ≡ Some i → V8 t b j i ≡ true

-- the function with further classes
abbrev pub with_classes : Function → List (Option ClassId) → Function
with_classes f cs = record f { classes = f.classes ++ cs }

-- Where both tables number all lanes of a function and each lane keeps its number, instructions do the same by the numbers of both.
abbrev pub DoesSameLaw : Type 0
DoesSameLaw =
    (t : Target) (f : Function) (x y : Table) → KeepsRules t f → NumbersAll t f x.lanes → NumbersAll t f y.lanes
    → KeepsNumbers (number_in x.lanes) (number_in y.lanes) → DoesSame t f x y

-- a computed table stays so where further lanes get numbers
abbrev pub FurtherLanesLaw : Type 0
FurtherLanesLaw =
    (t : Target) (f : Function) (x y : Table) → IsComputed t f x → KeepsRules t f → KeepsLast t f
    → NumbersAll t f y.lanes → HasFurtherLanes x y → IsComputed t f y

-- it is computed for a function with further classes where their ranges get numbers too
abbrev pub FurtherRangesLaw : Type 0
FurtherRangesLaw =
    (t : Target) (f : Function) (cs : List (Option ClassId)) (x y : Table) → IsComputed t f x → KeepsRules t f → KeepsLast t f
    → NumbersAll t (with_classes f cs) y.lanes → HasFurtherLanes x y → IsComputed t (with_classes f cs) y

-- Worked rows: units by their numbers; then two lanes of range 0, from a number on; then 32 of slot 5 behind these.

abbrev pub two_units : Numbering
two_units (owners.Unit u) = cond (nat_lt u 2) (Some u) None
two_units _ = None

abbrev pub range_from : ℕ → Numbering
range_from n (owners.Range v k) = cond (nat_eq v 0) (lane_in n 2 k) None
range_from n o = two_units o

abbrev pub slot_behind : Numbering
slot_behind (owners.Slot s k) = cond (nat_eq s 5) (lane_in 4 32 k) None
slot_behind o = range_from 2 o

-- a new range and a new slot leave all numbers as they were; a range that moves doesn't keep its own
abbrev pub NumbersGrow : Type 0
NumbersGrow =
    KeepsNumbers two_units (range_from 2)
    × KeepsNumbers (range_from 2) slot_behind
    × (KeepsNumbers (range_from 2) (range_from 3) → ⊥)
