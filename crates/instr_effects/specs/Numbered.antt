-- The numbers of lanes in a table.
use Rattle.std.specs.Prelude.{◌≡◌, ◌<◌, ℕ, Bool, List, [], ◌∷◌, ◌++◌, map, take, length, Option, Some, IsSome, slice_get}
use Rattle.std.specs.Ordering.{nat_cmp}
use Rattle.std.specs.BTreeMap.{get}
use Rattle.target_base.specs.declared.types.ClassId.{ClassId}
use Rattle.target_base.specs.declared.types.Target.{Target}
use Rattle.target_base.specs.Registers.{widths_of_some, is_reserved_unit}
use Rattle.mir_func.specs.declared.func.Instr.{Instr}
use Rattle.mir_func.specs.declared.func.Block.{Block}
use Rattle.mir_func.specs.Value.{Function}
use Rattle.mir_meaning.specs.Registers.{numbers}
use Rattle.instr_effects.specs.declared.lanes.LaneTable.{LaneTable}
use Rattle.instr_effects.specs.declared.owner.Owner.{Owner}
use Rattle.instr_effects.specs.declared.owner.Owner.TheVariants as owners
use Rattle.instr_effects.specs.declared.row.LaneSpan.{LaneSpan}
use Rattle.mir_func.specs.Binding.{slot_at}
use Rattle.instr_effects.specs.Numbers.{owner_number}

-- the number of a lane, where it has one; reserved units have none
abbrev pub number_in : LaneTable → Owner → Option ℕ
number_in t o = owner_number t.reserved.items t.ranges.items t.slots o

-- each number is that of one lane, whose owner stands at it; the first are those of the units, reserved ones too, and slots have
-- numbers for all lanes that a register may have
pub record IsTable (t : LaneTable) : Type 0 where
  pub owned : (o : Owner) (n : ℕ) → number_in t o ≡ Some n → slice_get t.owners.items n ≡ Some o
  pub units : (u : ℕ) → u < length t.reserved.items → slice_get t.owners.items u ≡ Some (owners.Unit u)
  pub full : (s : ℕ) (x : LaneSpan) → get nat_cmp t.slots s ≡ Some x → x.count ≡ 32

-- what has a number keeps it
abbrev pub KeepsNumbers : (Owner → Option ℕ) → (Owner → Option ℕ) → Type 0
KeepsNumbers old new = (o : Owner) (n : ℕ) → old o ≡ Some n → new o ≡ Some n

-- the slot has numbers
abbrev pub HasSlot : LaneTable → ℕ → Type 0
HasSlot t s = IsSome (get nat_cmp t.slots s)

-- which units are reserved
abbrev pub reserved_units : Target → List Bool
reserved_units t = map (is_reserved_unit t) (numbers 0 (length t.units))

-- how many lanes each range has
abbrev pub counts : List LaneSpan → List ℕ
counts xs = map (λ x. x.count) xs

abbrev pub class_counts : Target → List (Option ClassId) → List ℕ
class_counts t cs = map (λ c. length (widths_of_some t c)) cs

-- owners and ranges may have come behind those of before
pub record AddsLanes (old new : LaneTable) : Type 0 where
  pub owners : take (length old.owners.items) new.owners.items ≡ old.owners.items
  pub ranges : take (length old.ranges.items) new.ranges.items ≡ old.ranges.items
  pub reserved : new.reserved ≡ old.reserved
  pub slots : new.slots ≡ old.slots

-- so many lanes of the next range have numbers, in a row behind all others
pub record NumbersNext (old new : LaneTable) (count : ℕ) : Type 0 where
  pub own : LaneSpan
  pub ranges : new.ranges.items ≡ old.ranges.items ++ own ∷ []
  pub first : own.first ≡ length old.owners.items
  pub long : own.count ≡ count
  pub owned : new.owners.items ≡ old.owners.items ++ map (owners.Range (length old.ranges.items)) (numbers 0 count)
  pub few : length new.owners.items < 4294967296

-- the slots that are the second operand of these instructions have numbers
abbrev pub HasSlotsOf : LaneTable → List Instr → Type 0
HasSlotsOf tab is = (j : ℕ) (i : Instr) (s : ℕ) → slice_get is j ≡ Some i → slot_at i.operands 1 ≡ Some s → HasSlot tab s

-- a table numbers all lanes of a function, each with a number of its own: its units that aren't reserved, the lanes of its ranges, and those of the slots that are stored to or reloaded
pub record NumbersAll (t : Target) (f : Function) (tab : LaneTable) : Type 0 where
  pub table : IsTable tab
  pub reserved : tab.reserved.items ≡ reserved_units t
  pub ranges : counts tab.ranges.items ≡ class_counts t f.classes
  pub slots : (k : ℕ) (b : Block) → slice_get f.blocks k ≡ Some b → HasSlotsOf tab b.instrs
