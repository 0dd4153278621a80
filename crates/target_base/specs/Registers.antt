-- What a target says of its registers, classes, indexes and opcodes.
use Rattle.std.specs.Prelude.{◌<◌, ℕ, Bool, true, List, [], length, Option, Some, None, slice_get, Contains, position, option_map}
use Rattle.target_base.specs.declared.types.Unit.{Unit as UnitNumber}
use Rattle.target_base.specs.declared.types.Reg.{Reg}
use Rattle.target_base.specs.declared.types.ClassId.{ClassId}
use Rattle.target_base.specs.declared.types.IndexId.{IndexId}
use Rattle.target_base.specs.declared.types.OpId.{OpId}
use Rattle.target_base.specs.declared.types.MaskId.{MaskId}
use Rattle.target_base.specs.declared.types.IndexDesc.{IndexDesc}
use Rattle.target_base.specs.declared.types.Target.{Target}
use Rattle.target_base.specs.Numbers.{class_number, reg_number, unit_number}
use Rattle.target_base.specs.Storage as storage
use Rattle.target_base.specs.Rules as rules

abbrev pub IsUnit : Target → UnitNumber → Type 0
IsUnit t u = u.0 < length t.units

abbrev pub IsReg : Target → Reg → Type 0
IsReg t r = r.0 < length t.regs

abbrev pub IsIndex : Target → IndexId → Type 0
IsIndex t i = i.0 < length t.indexes

abbrev pub HasIndex : Target → Option IndexId → Type 0
HasIndex t None = Unit {0}
HasIndex t (Some i) = IsIndex t i

abbrev pub IsClass : Target → ClassId → Type 0
IsClass t c = c.0 < length t.classes

abbrev pub IsOpcode : Target → OpId → Type 0
IsOpcode t o = o.0 < length t.opcodes

-- the units of a register, lane by lane
abbrev pub units_of : Target → Reg → List UnitNumber
units_of t r = storage.reg_units t.regs r

abbrev pub lanes_in : Option IndexDesc → List ℕ
lanes_in None = []
lanes_in (Some d) = d.lanes

-- the lanes that an index picks
abbrev pub lanes_of : Target → IndexId → List ℕ
lanes_of t i = lanes_in (slice_get t.indexes i.0)

-- the registers of a class, in allocation order
abbrev pub regs_of : Target → ClassId → List Reg
regs_of t c = storage.class_regs t.classes c

-- the lane widths of a class
abbrev pub widths_of : Target → ClassId → List ℕ
widths_of t c = storage.class_widths t.units t.regs (regs_of t c)

-- two registers share a unit
abbrev pub Alias : Target → Reg → Reg → Type 0
Alias t a b = (u : UnitNumber) × Contains (units_of t a) u × Contains (units_of t b) u

-- the first register that is these lanes of another
abbrev pub sub_of : Target → Reg → IndexId → Option Reg
sub_of t r i = option_map reg_number (storage.sub_place t.regs (units_of t r) (lanes_of t i))

-- each register of the class has these lanes
abbrev pub fits : Target → ClassId → Option IndexId → Bool
fits t c None = true
fits t c (Some i) = storage.lanes_fit t.regs (lanes_of t i) (regs_of t c)

-- the first class that holds these lanes of each register of a class; without lanes the class itself
abbrev pub part_of : Target → ClassId → Option IndexId → Option ClassId
part_of t c None = Some c
part_of t c (Some i) = option_map class_number (storage.part_place t.regs t.classes (lanes_of t i) (regs_of t c))

abbrev pub widths_of_some : Target → Option ClassId → List ℕ
widths_of_some t None = []
widths_of_some t (Some c) = widths_of t c

-- the first class with these lane widths
abbrev pub class_of_widths : Target → List ℕ → Option ClassId
class_of_widths t ws = option_map class_number (position (λ d. storage.same_numbers (storage.class_widths t.units t.regs d.regs) ws) t.classes)

-- the first class with the lane widths of these lanes of a class
abbrev pub move_class : Target → ClassId → Option IndexId → Option ClassId
move_class t c i = class_of_widths t (widths_of_some t (part_of t c i))

-- the first class that holds a register
abbrev pub home_of : Target → Reg → Option ClassId
home_of t r = option_map class_number (position (λ d. storage.holds_reg d.regs r) t.classes)

-- the place of the first spill opcode for all registers of a class
abbrev pub spill_place : Target → ClassId → Option ℕ
spill_place t c = position (rules.spills t.classes (regs_of t c)) t.opcodes

-- the place of the first reload opcode for all registers of a class
abbrev pub reload_place : Target → ClassId → Option ℕ
reload_place t c = position (rules.reloads t.classes (regs_of t c)) t.opcodes

-- the registers of a mask
abbrev pub mask_regs : Target → MaskId → List Reg
mask_regs t k = elim (slice_get t.masks k.0) [ None ↦ [] | Some d ↦ d.regs ]

-- the unit, by its number, is reserved
abbrev pub is_reserved_unit : Target → ℕ → Bool
is_reserved_unit t u = storage.is_among t.reserved (unit_number u)
