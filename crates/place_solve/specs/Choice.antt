-- The first choice of registers, one of each variable's list, that keeps apart what must be apart.
use Rattle.std.specs.Prelude.{◌≡◌, ℕ, Bool, true, false, cond, not, ◌&&◌, List, [], ◌∷◌, ◌++◌, map, filter, length, drop, ◌+◌, ◌-◌, nat_lt, Option, Some, None}
use Rattle.std.specs.List.{zip, list_all, list_any, All}
use Rattle.target_base.specs.declared.types.Reg.{Reg}
use Rattle.target_base.specs.declared.types.Target.{Target}
use Rattle.target_base.specs.declared.types.Unit.{Unit as UnitNumber}
use Rattle.target_base.specs.Registers.{units_of}
use Rattle.target_base.specs.Rules.{regs_of_some}
use Rattle.target_base.specs.Storage.{is_among}
use Rattle.mir_meaning.specs.Places.{Using, Copying, Defining, Kind as Use, Variable as Need, variable, is_defining, reaches_back, must_be_apart, share_a_unit, all_apart, choices}
use Rattle.live_lanes.specs.declared.table.Table.{Table}
use Rattle.place_solve.specs.Positions.{at_entry, at_exit}
use Rattle.place_solve.specs.declared.position.PlacePosition.{PlacePosition}
use Rattle.place_solve.specs.declared.variables.VariableKind.{VariableKind}
use Rattle.place_solve.specs.declared.variables.VariableKind.TheVariants as kinds
use Rattle.place_solve.specs.declared.variables.Variable.{Variable}

-- the kind of a variable, as the definitions of places have it
abbrev pub use_of : VariableKind → Use
use_of kinds.Using = Using
use_of kinds.Copying = Copying
use_of (kinds.Defining tied early) = Defining tied early

-- a variable, as they have it
abbrev pub need_of : Variable → Need
need_of v = variable (use_of v.kind) v.range v.index v.class

-- variables with the registers that are chosen for the first of them
abbrev pub seats : List Variable → List Reg → List (Need × Reg)
seats vs rs = zip (map need_of vs) rs

-- a variable of this kind may lie in the register beside one that is chosen
abbrev pub stands_beside : Target → Use → Reg → Need × Reg → Bool
stands_beside t k r p = not (must_be_apart p.0.kind k && share_a_unit t p.1 r)

-- beside all that are chosen
abbrev pub fits : Target → List (Need × Reg) → Use → Reg → Bool
fits t ps k r = list_all (stands_beside t k r) ps

-- the choices for the variables behind those that are chosen that keep all apart, in order
abbrev pub completions : Target → List Variable → List Reg → List (List Reg) → List (List Reg)
completions t vs done options = filter (λ qs. all_apart t (seats vs (done ++ qs))) (choices options)

-- the first of a list
abbrev pub first : {X : Type 0} → List X → Option X
first [] = None
first (x ∷ xs) = Some x

-- of the registers for each of these variables, those that stand beside one that is chosen
abbrev pub narrowed : Target → Need × Reg → List Need → List (List Reg) → List (List Reg)
narrowed t p [] left = left
narrowed t p (n ∷ ns) [] = []
narrowed t p (n ∷ ns) (rs ∷ left) = filter (λ r. stands_beside t n.kind r p) rs ∷ narrowed t p ns left

-- the choices, one of each list, that keep these variables apart, in order
abbrev pub choices_apart : Target → List Need → List (List Reg) → List (List Reg)
choices_apart t ns left = filter (λ qs. all_apart t (zip ns qs)) (choices left)

-- the last of the variables, as many as there are lists
abbrev pub needs_left : List Variable → List (List Reg) → List Need
needs_left vs left = drop (length vs - length left) (map need_of vs)

-- no choice of these lists keeps the variables apart that are left
abbrev pub IsNogood : Target → List Variable → List (List Reg) → Type 0
IsNogood t vs left = choices_apart t (needs_left vs left) left ≡ []

abbrev pub AreNogoods : Target → List Variable → List (List (List Reg)) → Type 0
AreNogoods t vs nogoods = All (IsNogood t vs) nogoods

-- what is remembered once a list of lists is added: those of fewer than three lists aren't
abbrev pub remembered : List (List (List Reg)) → List (List Reg) → List (List (List Reg))
remembered nogoods left = cond (nat_lt 2 (length left)) (nogoods ++ left ∷ []) nogoods

-- the register holds one of these units
abbrev pub holds_one : Target → List UnitNumber → Reg → Bool
holds_one t units r = list_any (is_among (units_of t r)) units

-- a variable holds its register while uses are read, and each of these registers holds one of the units
abbrev pub must_hold : Target → List UnitNumber → Need → List Reg → Bool
must_hold t units n rs = reaches_back n.kind && list_all (holds_one t units) rs

-- how many of these variables do, each with its list
abbrev pub holders : Target → List UnitNumber → List Need → List (List Reg) → ℕ
holders t units [] left = 0
holders t units (n ∷ ns) [] = 0
holders t units (n ∷ ns) (rs ∷ left) = cond (must_hold t units n rs) 1 0 + holders t units ns left

-- a variable of this kind may lie in the unit at the place
abbrev pub is_free : Target → Table → PlacePosition → Use → UnitNumber → Bool
is_free t x a k u = not (is_among t.reserved u) && not (reaches_back k && at_entry t x a u) && not (is_defining k && at_exit t x a u)

-- it may lie in the register
abbrev pub may_lie : Target → Table → PlacePosition → Use → Reg → Bool
may_lie t x a k r = list_all (is_free t x a k) (units_of t r)

-- the registers of a variable's class that it may lie in, in allocation order
abbrev pub options_in : Target → Table → PlacePosition → Variable → List Reg
options_in t x a v = filter (may_lie t x a (use_of v.kind)) (regs_of_some t.classes v.class)

-- the first choice of these that keeps all apart
abbrev pub first_apart : Target → Table → PlacePosition → List Variable → Option (List Reg)
first_apart t x a vs = first (completions t vs [] (map (options_in t x a) vs))
