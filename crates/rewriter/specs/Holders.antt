-- The registers that hold each unit, and which of them stands for it.
use Rattle.std.specs.Prelude.{◌≡◌, ◌<◌, ℕ, Bool, true, cond, ◌&&◌, nat_eq, List, [], ◌∷◌, ◌++◌, Option, Some, None, length, slice_get, slice_set, filter, find}
use Rattle.std.specs.List.{list_all, list_any}
use Rattle.std.specs.Option.{option_or}
use Rattle.target_base.specs.declared.types.Reg.{Reg}
use Rattle.target_base.specs.declared.types.Target.{Target}
use Rattle.target_base.specs.Registers.{units_of}
use Rattle.mir_func.specs.Binding.{passes}
use Rattle.mir_meaning.specs.Valid.{holds_unit, chosen}

-- the registers that are listed for a unit
abbrev pub listed : List (List Reg) → ℕ → List Reg
listed hs u = elim (slice_get hs u) [ None ↦ [] | Some rs ↦ rs ]

-- for each unit of the target those of the registers that hold it, in their order
pub record AreHolders (t : Target) (rs : List Reg) (hs : List (List Reg)) : Type 0 where
  pub count : length hs ≡ length t.units
  pub lists : (u : ℕ) → u < length t.units → listed hs u ≡ filter (holds_unit t u) rs

-- a register is put at the end of the lists of the units that pass the test
pub record IsPut (test : ℕ → Bool) (r : Reg) (old new : List (List Reg)) : Type 0 where
  pub count : length new ≡ length old
  pub lists : (u : ℕ) → u < length old → listed new u ≡ listed old u ++ cond (test u) (r ∷ []) []

-- the first of the registers whose units are all live
abbrev pub first_whole : Target → (ℕ → Bool) → List Reg → Option Reg
first_whole t live rs = find (λ r. list_all (λ w. live w.0) (units_of t r)) rs

-- of the registers that hold a unit the one that stands for it: the first whose units are all live, or else the first
abbrev pub chosen_among : Target → (ℕ → Bool) → List Reg → Option Reg
chosen_among t live rs = option_or (first_whole t live rs) (find (λ r. true) rs)

-- the register that stands for a unit, where it is live
abbrev pub chosen_for : Target → (ℕ → Bool) → ℕ → Option Reg
chosen_for t live u = cond (live u) (chosen t live u) None

-- flags with that of a register set, if there is one
abbrev pub with_flag : List Bool → Option Reg → List Bool
with_flag flags None = flags
with_flag flags (Some r) = slice_set flags r.0 true

-- the register of that number stands for one of the units, which is live
abbrev pub is_chosen : Target → (ℕ → Bool) → List ℕ → ℕ → Bool
is_chosen t live us r = list_any (λ u. live u && passes (λ q. nat_eq r q.0) (chosen t live u)) us
