-- Which units are in use around a place, as the table of live lanes and the operands tell it.
use Rattle.std.specs.Prelude.{ℕ, Bool, false, not, ◌&&◌, ◌||◌, List, [], ◌∷◌, length, nat_lt}
use Rattle.std.specs.List.{list_any}
use Rattle.std.specs.Ordering.{nat_cmp}
use Rattle.std.specs.BTreeMap.{get}
use Rattle.target_base.specs.declared.types.Unit.{Unit as UnitNumber}
use Rattle.target_base.specs.declared.types.Target.{Target}
use Rattle.target_base.specs.Registers.{units_of, is_reserved_unit}
use Rattle.target_base.specs.Storage.{is_among}
use Rattle.mir_func.specs.declared.func.Loc.{Loc}
use Rattle.mir_func.specs.declared.func.Loc.TheVariants.{Virtual, Fixed}
use Rattle.mir_func.specs.declared.func.Operand.{Operand}
use Rattle.mir_func.specs.declared.func.Operand.TheVariants as operands
use Rattle.mir_func.specs.declared.func.Instr.{Instr}
use Rattle.target_base.specs.Numbers.{unit_number}
use Rattle.mir_func.specs.Binding.{Definition, definitions, does, roles_of}
use Rattle.mir_meaning.specs.Items.{preserves}
use Rattle.instr_effects.specs.Acts.{is_call}
use Rattle.instr_effects.specs.declared.owner.Owner.TheVariants as owners
use Rattle.instr_effects.specs.Numbered.{number_in}
use Rattle.live_lanes.specs.declared.table.Table.{Table}
use Rattle.live_lanes.specs.Marks.{marked_at}
use Rattle.live_lanes.specs.Looks.{entry_at, exit_at}
use Rattle.place_solve.specs.declared.position.PlacePosition.{PlacePosition}
use Rattle.place_solve.specs.declared.position.PlacePosition.TheVariants as arounds

-- the location is a register that has the unit
abbrev pub has_unit : Target → Loc → UnitNumber → Bool
has_unit t (Virtual v) u = false
has_unit t (Fixed r) u = is_among (units_of t r) u

-- the operand defines the unit
unfoldable pub defines : Target → UnitNumber → Operand → Bool
defines t u (operands.Reg o) = o.def && has_unit t o.loc u
defines t u _ = false

-- the definition is an early-clobber one of the unit
abbrev pub defines_early : Target → UnitNumber → Definition → Bool
defines_early t u d = d.0 && has_unit t d.1.loc u

-- the operand is a mask that preserves the unit
unfoldable pub keeps_unit : Target → UnitNumber → Operand → Bool
keeps_unit t u = preserves t u.0

-- the instruction is a call, and none of its masks preserves the unit
abbrev pub clobbers : Target → Instr → UnitNumber → Bool
clobbers t i u = does is_call t i && not (list_any (keeps_unit t u) i.operands)

-- the instruction writes the unit
abbrev pub writes : Target → Instr → UnitNumber → Bool
writes t i u = list_any (defines t u) i.operands || clobbers t i u

-- the instruction writes the unit by an early-clobber definition
abbrev pub writes_early : Target → Instr → UnitNumber → Bool
writes_early t i u = list_any (defines_early t u) (definitions (roles_of t i) i.operands)

-- the unit is marked live at the entry of the instruction of that id
abbrev pub enters : Table → UnitNumber → ℕ → Bool
enters x u id = entry_at x (number_in x.lanes (owners.Unit u.0)) id

-- the same of its exit
abbrev pub leaves : Table → UnitNumber → ℕ → Bool
leaves x u id = exit_at x (number_in x.lanes (owners.Unit u.0)) id

-- the same of the start of block n
abbrev pub starts : Table → UnitNumber → ℕ → Bool
starts x u n = marked_at x.rows.rows.items (number_in x.lanes (owners.Unit u.0)) (get nat_cmp x.order.positions n)

-- uses may not lie in the unit at the first of these instructions of one place
abbrev pub is_taken : Target → Table → UnitNumber → Instr → Bool
is_taken t x u i = enters x u i.id || writes_early t i u

-- uses may not lie in the unit at these instructions, which make one place
abbrev pub entry_tests : Target → Table → UnitNumber → List Instr → Bool
entry_tests t x u [] = false
entry_tests t x u (i ∷ []) = is_taken t x u i
entry_tests t x u (i ∷ j ∷ is) = (is_taken t x u i || writes t i u) || entry_tests t x u (j ∷ is)

-- definitions may not lie in the unit at the instruction
abbrev pub is_left : Target → Table → UnitNumber → Instr → Bool
is_left t x u i = leaves x u i.id || writes t i u

-- definitions may not lie in the unit at these instructions, which make one place
abbrev pub exit_tests : Target → Table → UnitNumber → List Instr → Bool
exit_tests t x u is = list_any (is_left t x u) is

-- uses and copies at the place may not lie in the unit
abbrev pub at_entry : Target → Table → PlacePosition → UnitNumber → Bool
at_entry t x (arounds.Instrs is) u = entry_tests t x u is.now
at_entry t x (arounds.Before id) u = enters x u id
at_entry t x (arounds.Behind id) u = leaves x u id
at_entry t x (arounds.Start n) u = starts x u n

-- definitions at the place may not lie in the unit
abbrev pub at_exit : Target → Table → PlacePosition → UnitNumber → Bool
at_exit t x (arounds.Instrs is) u = exit_tests t x u is.now
at_exit t x _ u = false

-- the unit is one of the target, and not reserved
abbrev pub takes_part : Target → ℕ → Bool
takes_part t n = nat_lt n (length t.units) && not (is_reserved_unit t n)

-- the same, by the unit's number; reserved units are never in use
abbrev pub entry_of : Target → Table → PlacePosition → ℕ → Bool
entry_of t x a n = takes_part t n && at_entry t x a (unit_number n)

abbrev pub exit_of : Target → Table → PlacePosition → ℕ → Bool
exit_of t x a n = takes_part t n && at_exit t x a (unit_number n)
