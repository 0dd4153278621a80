-- Ties, definitions and slots, over operands that are sorted.
use Rattle.std.specs.Prelude.{ℕ, Bool, not, ◌&&◌, cond, List, [], ◌∷◌, Option, Some, None, map, filter}
use Rattle.std.specs.List.{list_all}
use Rattle.std.specs.Bool.{beq}
use Rattle.target_base.specs.declared.types.Target.{Target}
use Rattle.target_base.specs.Roles.{is_slot}
use Rattle.mir_func.specs.declared.func.RegOp.{RegOp}
use Rattle.mir_func.specs.declared.func.Operand.TheVariants as operands
use Rattle.mir_func.specs.Value.{Function}
use Rattle.mir_meaning.specs.declared.Form.{Form}
use Rattle.mir_func.specs.Binding.{Bound, TiedPair, numbered, passes, ties_to}
use Rattle.mir_meaning.specs.Rules.{tie_fits, undef_fits, no_two_share, defined_lanes, early_fits, undef_uses_fit}
use Rattle.machine_verify.specs.declared.numbers.NumberSet.{NumberSet}
use Rattle.machine_verify.specs.Sets.{has}

-- a tied pair fits
abbrev pub pair_fits : Target → Form → Function → TiedPair → Bool
pair_fits t form f p = tie_fits t form f p.definition p.tied_use

-- what is read besides a use that is tied to the definition of that number
abbrev pub reading_besides : ℕ → Bound → Option RegOp
reading_besides n (r, operands.Reg o) = cond (not (passes (ties_to n) r) && not o.def && not o.undef) (Some o) None
reading_besides n (r, o) = None

-- definitions are apart from each other and, where they are early, from uses; of an opaque instruction or another
abbrev pub definitions_fit : Target → Form → Function → Bool → List RegOp → List Bound → Bool
definitions_fit t form f opaque named bs =
    list_all (undef_fits form named) (filter (λ o. o.def) named)
    && no_two_share (map (defined_lanes t f opaque) (filter (λ o. o.def) named))
    && list_all (early_fits t f bs) (numbered 0 bs)
    && undef_uses_fit opaque bs

-- a `slot` operand names a slot of the set, and no other operand does
abbrev pub slot_fits : NumberSet → Bound → Bool
slot_fits s (r, operands.Stack n) = beq (passes is_slot r) (has s n)
slot_fits s (r, o) = not (passes is_slot r)

-- the numbers of the spill slots among frame objects
abbrev pub spill_numbers : List (ℕ × Bool) → List ℕ
spill_numbers [] = []
spill_numbers (o ∷ os) = cond o.1 (o.0 ∷ spill_numbers os) (spill_numbers os)
