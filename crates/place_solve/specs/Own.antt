-- The own places of instructions, and the first that has too many variables.
use Rattle.std.specs.Prelude.{◌≡◌, ◌<◌, ℕ, Bool, true, false, cond, nat_lt, List, [], ◌∷◌, take, drop, length, flat_map, Option, Some, None, slice_get}
use Rattle.std.specs.List.{list_any}
use Rattle.target_base.specs.declared.types.Target.{Target}
use Rattle.mir_func.specs.declared.func.Place.{Place}
use Rattle.mir_func.specs.declared.func.Instr.{Instr}
use Rattle.mir_func.specs.Value.{Function}
use Rattle.mir_func.specs.Binding.{does, is_terminator, is_lowered_away}
use Rattle.mir_meaning.specs.Places.{Needs, Variable as Need, each_once, instr_variables, StandsAt, FirstPlace, TooMany}
use Rattle.place_solve.specs.declared.check.PlaceStop.{PlaceStop}
use Rattle.place_solve.specs.declared.check.PlaceStop.TheVariants as stops

-- the instructions that make the own place of instruction i, which is the one at j of these: the terminators are
-- one place at the first of them, and what lowering takes away has none
abbrev pub own_of : Target → List Instr → ℕ → Instr → List Instr
own_of t is j i = cond (does is_terminator t i) (cond (list_any (does is_terminator t) (take j is)) [] (drop j is)) (cond (does is_lowered_away t i) [] (i ∷ []))

-- those of the one that was found at j; none where there is no such one
abbrev pub own_found : Target → List Instr → ℕ → Option Instr → List Instr
own_found t is j None = []
own_found t is j (Some i) = own_of t is j i

abbrev pub own_instrs : Target → List Instr → ℕ → List Instr
own_instrs t is j = own_found t is j (slice_get is j)

-- the variables of such a place
abbrev pub place_variables : Target → Function → List Instr → List Need
place_variables t f is = each_once [] (flat_map (instr_variables t f) is)

-- the own place of the instruction at j has too many variables
abbrev pub is_crowded : Target → Function → List Instr → ℕ → Bool
is_crowded t f is j = nat_lt 6 (length (place_variables t f (own_instrs t is j)))

-- the first number below n that passes, if one does
abbrev pub IsFirst : (ℕ → Bool) → ℕ → Option ℕ → Type 0
IsFirst test n None = (j : ℕ) → j < n → test j ≡ false
IsFirst test n (Some k) = (k < n) × (test k ≡ true) × ((j : ℕ) → j < k → test j ≡ false)

-- no place has too many variables
abbrev pub HasFew : Target → Function → Type 0
HasFew t f = (k j : ℕ) (p : Needs) → StandsAt t f k j p → TooMany p → ⊥

-- the first place that has too many, if one has
abbrev pub IsCrowded : Target → Function → Option Place → Type 0
IsCrowded t f None = HasFew t f
IsCrowded t f (Some name) = FirstPlace t f TooMany name

-- where the refusal is that a place has too many variables, this holds of it
abbrev pub IfVariables : (Place → Type 0) → PlaceStop → Type 0
IfVariables P (stops.Variables p) = P p
IfVariables P _ = Unit {0}

-- where it is that a place admits nothing, this holds of it
abbrev pub IfUnassignable : (Place → Type 0) → PlaceStop → Type 0
IfUnassignable P (stops.Unassignable p) = P p
IfUnassignable P _ = Unit {0}
