-- The variables of a place, put one behind the other.
use Rattle.std.specs.Prelude.{ℕ, Bool, cond, not, ◌&&◌, ◌||◌, List, [], ◌∷◌, ◌++◌, Option, Some, None, option_and_then}
use Rattle.std.specs.List.{list_any, filter_map}
use Rattle.target_base.specs.declared.types.Role.{Role}
use Rattle.target_base.specs.declared.types.Target.{Target}
use Rattle.target_base.specs.Roles.{is_tied}
use Rattle.mir_func.specs.declared.func.RegOp.{RegOp}
use Rattle.mir_func.specs.declared.func.Operand.{Operand}
use Rattle.mir_func.specs.declared.func.Operand.TheVariants as operands
use Rattle.mir_func.specs.Value.{Function}
use Rattle.mir_func.specs.Binding.{Bound, passes, is_early, is_virtual, ties_to, tied_number}
use Rattle.mir_meaning.specs.Registers.{operand_widths}
use Rattle.mir_meaning.specs.Places.{Using, Defining, Kind as Use, Variable as Need, same_use, copy_variable, operand_variable}
use Rattle.place_solve.specs.declared.variables.Variable.{Variable}
use Rattle.place_solve.specs.Choice.{need_of}

-- two uses of one register, index and class
abbrev pub same_use_of : Variable → Variable → Bool
same_use_of v w = same_use (need_of v) (need_of w)

-- with one variable more, unless it is a use that stands there
abbrev pub once_more : List Need → Need → List Need
once_more made v = cond (list_any (same_use v) made) made (made ++ v ∷ [])

-- with one more, if there is one
abbrev pub once_if : List Need → Option Need → List Need
once_if made None = made
once_if made (Some v) = once_more made v

-- with all of these more
abbrev pub all_once : List Need → List Need → List Need
all_once made [] = made
all_once made (v ∷ vs) = all_once (once_more made v) vs

-- how an operand is used
abbrev pub operand_use : Bool → Option Role → RegOp → Use
operand_use tied role o = cond o.def (Defining tied (passes is_early role)) Using

-- it reads nothing or is tied
abbrev pub is_left_out : Option Role → RegOp → Bool
is_left_out role o = not o.def && (o.undef || passes is_tied role)

-- the numbers of the definitions to which operands are tied
abbrev pub tied_numbers : List Bound → List ℕ
tied_numbers bs = filter_map (λ b. option_and_then tied_number b.0) bs

-- the variable of a numbered operand that stands among these
abbrev pub numbered_variable : Target → Function → List Bound → ℕ × Bound → Option Need
numbered_variable t f bs p = operand_variable t f (list_any (λ b. passes (ties_to p.0) b.0) bs) p.1

-- the definition of a copy between virtual registers
abbrev pub two_sides : Operand → Operand → Option RegOp
two_sides (operands.Reg d) (operands.Reg s) = cond (is_virtual d.loc && is_virtual s.loc) (Some d) None
two_sides a b = None

abbrev pub virtual_sides : List Operand → Option RegOp
virtual_sides (a ∷ b ∷ os) = two_sides a b
virtual_sides os = None

-- the variable of such a copy
abbrev pub side_variables : Target → Function → Option RegOp → List Need
side_variables t f None = []
side_variables t f (Some d) = copy_variable t (operand_widths t f d) ∷ []
