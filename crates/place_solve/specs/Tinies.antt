-- Registers for the tinies of one place.
use Rattle.std.specs.Prelude.{ℕ, Bool, false, cond, ◌&&◌, nat_eq, List, [], ◌∷◌, map, filter, zip, Option, None, option_map}
use Rattle.std.specs.List.{list_any}
use Rattle.target_base.specs.declared.types.Reg.{Reg}
use Rattle.target_base.specs.declared.types.Target.{Target}
use Rattle.target_base.specs.Rules.{is_spill}
use Rattle.mir_func.specs.declared.func.Instr.{Instr}
use Rattle.mir_func.specs.Value.{Function}
use Rattle.target_base.specs.Numbers.{unit_number}
use Rattle.mir_func.specs.Binding.{class_of, does, is_terminator}
use Rattle.mir_meaning.specs.Places.{Copying, Variable as Need, solutions, variable}
use Rattle.interference.specs.declared.tiny.Tiny.{Tiny}
use Rattle.live_lanes.specs.declared.table.Table.{Table}
use Rattle.place_solve.specs.declared.position.PlacePosition.{PlacePosition}
use Rattle.place_solve.specs.declared.position.PlacePosition.TheVariants as arounds
use Rattle.place_solve.specs.declared.variables.Variable.{Variable}
use Rattle.place_solve.specs.Positions.{takes_part, entry_tests, exit_tests, entry_of, exit_of}
use Rattle.place_solve.specs.Choice.{first}
use Rattle.place_solve.specs.Own.{place_variables}

-- the range is one of the tinies
abbrev pub is_tiny : List Tiny → ℕ → Bool
is_tiny ts v = list_any (λ t. nat_eq t.range v) ts

-- the variable stands for a tiny
abbrev pub stands_for_tiny : List Tiny → Variable → Bool
stands_for_tiny ts v = is_tiny ts v.range

-- the variables of a place that stand for tinies, in operand order
abbrev pub tiny_needs : Target → Function → List Tiny → List Instr → List Need
tiny_needs t f ts is = filter (λ v. is_tiny ts v.range) (place_variables t f is)

-- the variable of the copy for which a store of the range stands
abbrev pub stored_need : Function → ℕ → Need
stored_need f v = variable Copying v None (class_of f v)

-- the place is a store to a slot
abbrev pub is_store : Target → List Instr → Bool
is_store t [] = false
is_store t (i ∷ is) = does is_spill t i

-- the ranges of these variables, each with its register
abbrev pub paired : List Need → List Reg → List (ℕ × Reg)
paired vs rs = zip (map (λ v. v.range) vs) rs

-- the first of these instructions, which make the rest of a block, or all where it is a terminator: the terminators of
-- a block are one place
abbrev pub place_among : Target → List Instr → List Instr
place_among t [] = []
place_among t (i ∷ is) = cond (does is_terminator t i) (i ∷ is) (i ∷ [])

-- the units in use, by the table, at the entry and at the exit of the place of these instructions
abbrev pub entry_in : Target → Table → List Instr → ℕ → Bool
entry_in t x is n = takes_part t n && entry_tests t x (unit_number n) is

abbrev pub exit_in : Target → Table → List Instr → ℕ → Bool
exit_in t x is n = takes_part t n && exit_tests t x (unit_number n) is

-- the first choice of registers for these variables that serves there, where these units are in use
abbrev pub choice_in : Target → (ℕ → Bool) → (ℕ → Bool) → List Need → Option (List (ℕ × Reg))
choice_in t entry exit vs = option_map (paired vs) (first (solutions t entry exit vs))

abbrev pub choice_at : Target → Table → PlacePosition → List Need → Option (List (ℕ × Reg))
choice_at t x a vs = choice_in t (entry_of t x a) (exit_of t x a) vs

-- that for the tinies of the place of these instructions; a store of a tiny and the reload into it stand for one
-- copy, at the store
abbrev pub tiny_choice : Target → Function → Table → List Tiny → Tiny → List Instr → Option (List (ℕ × Reg))
tiny_choice t f x ts one is = cond (is_store t is) (choice_at t x (arounds.Before one.at) (stored_need f one.range ∷ [])) (choice_in t (entry_in t x is) (exit_in t x is) (tiny_needs t f ts is))
