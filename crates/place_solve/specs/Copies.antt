-- The copies that lowering makes of an instruction, and whether they admit registers, by the table of live lanes.
use Rattle.std.specs.Prelude.{ℕ, Bool, true, false, not, ◌&&◌, ◌||◌, List, [], ◌∷◌, Some, None}
use Rattle.std.specs.List.{list_any}
use Rattle.target_base.specs.declared.types.Target.{Target}
use Rattle.mir_func.specs.declared.func.Loc.{Loc}
use Rattle.mir_func.specs.declared.func.RegOp.{RegOp}
use Rattle.mir_func.specs.declared.func.Operand.{Operand}
use Rattle.mir_func.specs.declared.func.Operand.TheVariants as operands
use Rattle.mir_func.specs.declared.func.Instr.{Instr}
use Rattle.mir_func.specs.Value.{Function}
use Rattle.mir_func.specs.Binding.{Bound, TiedPair, passes, tied_pair, ties_to, is_virtual, same_loc, same_index}
use Rattle.mir_meaning.specs.Registers.{operand_widths}
use Rattle.mir_meaning.specs.Places.{copy_variable, phi_point}
use Rattle.live_lanes.specs.declared.table.Table.{Table}
use Rattle.place_solve.specs.declared.position.PlacePosition.{PlacePosition}
use Rattle.place_solve.specs.declared.position.PlacePosition.TheVariants as arounds
use Rattle.place_solve.specs.Told.{around_of, is_solved}

-- a copy of lanes of this operand's widths admits a register there
abbrev pub copy_fits : Target → Function → Table → PlacePosition → RegOp → Bool
copy_fits t f x a o = is_solved t x a (copy_variable t (operand_widths t f o) ∷ [])

-- the copy of a phi's use admits one in its block, or nothing is copied
abbrev pub pair_fits : Target → Function → Table → RegOp × ℕ → Bool
pair_fits t f x p = p.0.undef || copy_fits t f x (around_of (phi_point t f p.1)) p.0

-- the copy of an input admits one before the instruction of that id, or nothing is copied
abbrev pub input_fits : Target → Function → Table → ℕ → Operand → Bool
input_fits t f x id (operands.Reg o) = (o.def || o.undef) || copy_fits t f x (arounds.Before id) o
input_fits t f x id _ = true

-- the operand is a register of the location
abbrev pub names : Loc → Operand → Bool
names l (operands.Reg o) = same_loc l o.loc
names l _ = false

-- the operand reads the location
abbrev pub reads : Loc → Operand → Bool
reads l (operands.Reg o) = not o.def && not o.undef && same_loc l o.loc
reads l _ = false

-- the operand reads the location, and isn't a use tied to the definition of that number
abbrev pub reads_besides : ℕ → Loc → Bound → Bool
reads_besides n l b = not (passes (ties_to n) b.0) && reads l b.1

-- nothing is copied for a tied pair
abbrev pub is_in_place : TiedPair → Bool
is_in_place p = p.tied_use.undef || not (is_virtual p.definition.loc) || (same_loc p.definition.loc p.tied_use.loc && same_index p.definition.index p.tied_use.index)

-- the copies for a tied pair among these operands of the instruction of that id admit registers
abbrev pub tie_fits : Target → Function → Table → ℕ → List Bound → TiedPair → Bool
tie_fits t f x id bs p =
    is_in_place p
    || (copy_fits t f x (arounds.Before id) p.definition && (not (list_any (reads_besides p.number p.definition.loc) bs) || copy_fits t f x (arounds.Behind id) p.definition))

-- those for an operand that stands among these, where it is a tied use
abbrev pub operand_fits : Target → Function → Table → Instr → List Bound → Bound → Bool
operand_fits t f x i bs b = elim (tied_pair i.operands b) [ None ↦ true | Some p ↦ tie_fits t f x i.id bs p ]
