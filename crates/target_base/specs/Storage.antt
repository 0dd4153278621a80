-- Registers as lists of units, indexes as lists of lanes, classes as lists of registers.
use Rattle.std.specs.Prelude.{ℕ, Bool, true, false, List, [], ◌∷◌, Option, Some, None, slice_get, position, is_some, map, not, ◌&&◌, ◌==◌}
use Rattle.std.specs.List.{list_all, list_any}
use Rattle.target_base.specs.declared.types.Unit.{Unit as UnitNumber}
use Rattle.target_base.specs.declared.types.Reg.{Reg}
use Rattle.target_base.specs.declared.types.ClassId.{ClassId}
use Rattle.target_base.specs.declared.types.UnitDesc.{UnitDesc}
use Rattle.target_base.specs.declared.types.RegDesc.{RegDesc}
use Rattle.target_base.specs.declared.types.ClassDesc.{ClassDesc}
use Rattle.target_base.specs.Numbers.{reg_number}

abbrev pub units_in : Option RegDesc → List UnitNumber
units_in None = []
units_in (Some d) = d.units

-- the units of a register, lane by lane
abbrev pub reg_units : List RegDesc → Reg → List UnitNumber
reg_units regs r = units_in (slice_get regs r.0)

abbrev pub regs_in : Option ClassDesc → List Reg
regs_in None = []
regs_in (Some d) = d.regs

-- the registers of a class, in allocation order
abbrev pub class_regs : List ClassDesc → ClassId → List Reg
class_regs classes c = regs_in (slice_get classes c.0)

abbrev pub width_in : Option UnitDesc → ℕ
width_in None = 0
width_in (Some d) = d.width

-- the width of a unit in bits
abbrev pub unit_width : List UnitDesc → UnitNumber → ℕ
unit_width units u = width_in (slice_get units u.0)

-- the lane widths of a list of units
abbrev pub widths : List UnitDesc → List UnitNumber → List ℕ
widths units us = map (unit_width units) us

-- the units of the first register of a list
abbrev pub class_units : List RegDesc → List Reg → List UnitNumber
class_units regs [] = []
class_units regs (r ∷ rs) = reg_units regs r

-- the lane widths of a class, which are those of its first register
abbrev pub class_widths : List UnitDesc → List RegDesc → List Reg → List ℕ
class_widths units regs rs = widths units (class_units regs rs)

abbrev pub is_among : List UnitNumber → UnitNumber → Bool
is_among us u = list_any (λ v. v.0 == u.0) us

abbrev pub holds_reg : List Reg → Reg → Bool
holds_reg rs r = list_any (λ q. q.0 == r.0) rs

-- all registers of the first list lie in the second
abbrev pub is_within : List Reg → List Reg → Bool
is_within rs qs = list_all (holds_reg qs) rs

abbrev pub is_unit : Option UnitNumber → UnitNumber → Bool
is_unit None u = false
is_unit (Some v) u = v.0 == u.0

-- the lanes pick exactly the units of the last list, in this order
abbrev pub is_picked : List UnitNumber → List ℕ → List UnitNumber → Bool
is_picked us [] [] = true
is_picked us [] (p ∷ ps) = false
is_picked us (k ∷ ks) [] = false
is_picked us (k ∷ ks) (p ∷ ps) = is_unit (slice_get us k) p && is_picked us ks ps

-- the place of the first register whose units are those that the lanes pick
abbrev pub sub_place : List RegDesc → List UnitNumber → List ℕ → Option ℕ
sub_place regs us lanes = position (λ d. is_picked us lanes d.units) regs

-- the lanes pick the units of a register, of each register of the list
abbrev pub lanes_fit : List RegDesc → List ℕ → List Reg → Bool
lanes_fit regs lanes rs = list_all (λ r. is_some (sub_place regs (reg_units regs r) lanes)) rs

abbrev pub holds_place : List Reg → Option ℕ → Bool
holds_place rs None = false
holds_place rs (Some k) = holds_reg rs (reg_number k)

-- the last list holds what the lanes pick of each register of the list before it
abbrev pub holds_subs : List RegDesc → List ℕ → List Reg → List Reg → Bool
holds_subs regs lanes rs qs = list_all (λ r. holds_place qs (sub_place regs (reg_units regs r) lanes)) rs

-- the first class that holds what the lanes pick of each register
abbrev pub part_place : List RegDesc → List ClassDesc → List ℕ → List Reg → Option ℕ
part_place regs classes lanes rs = position (λ d. holds_subs regs lanes rs d.regs) classes

-- none of the register's units is reserved
abbrev pub is_unreserved : List UnitNumber → List RegDesc → Reg → Bool
is_unreserved reserved regs r = list_all (λ u. not (is_among reserved u)) (reg_units regs r)

-- the lists have equal elements
abbrev pub same_numbers : List ℕ → List ℕ → Bool
same_numbers [] [] = true
same_numbers [] (y ∷ ys) = false
same_numbers (x ∷ xs) [] = false
same_numbers (x ∷ xs) (y ∷ ys) = x == y && same_numbers xs ys

-- the place of the first class with the lane widths of these registers
abbrev pub alike_place : List UnitDesc → List RegDesc → List ClassDesc → List Reg → Option ℕ
alike_place units regs classes rs = position (λ d. same_numbers (class_widths units regs d.regs) (class_widths units regs rs)) classes
