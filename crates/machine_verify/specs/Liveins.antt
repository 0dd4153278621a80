-- Live units as flags, and the registers that stand for them.
use Rattle.std.specs.Prelude.{ℕ, Bool, true, false, cond, List, [], ◌∷◌, ◌++◌, Option, Some, None, find, filter, option_to_list, slice_get, nat_eq, map}
use Rattle.std.specs.List.{list_all, list_any}
use Rattle.std.specs.Option.{option_or}
use Rattle.target_base.specs.declared.types.Reg.{Reg}
use Rattle.target_base.specs.declared.types.Target.{Target}
use Rattle.target_base.specs.Registers.{units_of}
use Rattle.mir_meaning.specs.Valid.{holds_unit}

-- the flag of that number is set
abbrev pub is_set : List Bool → ℕ → Bool
is_set flags u = elim (slice_get flags u) [ None ↦ false | Some flag ↦ flag ]

-- the register of the list that stands for a unit: the first whose units are all live, or else the first
abbrev pub chosen_of : Target → List Reg → (ℕ → Bool) → ℕ → Option Reg
chosen_of t rs live u = option_or (find (λ r. list_all (λ w. live w.0) (units_of t r)) (filter (holds_unit t u) rs)) (find (λ r. true) (filter (holds_unit t u) rs))

-- the register that stands for a unit, where it is live
abbrev pub wanted_at : Target → List Reg → (ℕ → Bool) → ℕ → List Reg
wanted_at t rs live u = cond (live u) (option_to_list (chosen_of t rs live u)) []

-- the registers that stand for live units, unit by unit
abbrev pub wanted : Target → List Reg → (ℕ → Bool) → List ℕ → List Reg
wanted t rs live [] = []
wanted t rs live (u ∷ us) = wanted_at t rs live u ++ wanted t rs live us

-- those of the registers that are among the wanted ones
abbrev pub standing : List Reg → List Reg → List Reg
standing ws rs = filter (λ r. list_any (λ q. nat_eq r.0 q.0) ws) rs

-- the numbers of registers
abbrev pub register_numbers : List Reg → List ℕ
register_numbers rs = map (λ r. r.0) rs
