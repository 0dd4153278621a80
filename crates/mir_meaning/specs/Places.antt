-- Places: where several variables need registers at once, which choices of registers serve, and in which order.
use Rattle.std.specs.Prelude.{◌≡◌, ℕ, Bool, true, false, cond, not, ◌&&◌, ◌||◌, nat_eq, List, [], ◌∷◌, ◌++◌, map, filter, filter_map, flat_map, take, drop, length, zip, Option, Some, None, ◌⊎◌, nat_lt, ◌<◌, slice_get}
use Rattle.std.specs.List.{list_all, list_any}
use Rattle.std.specs.Bool.{beq}
use Rattle.target_base.specs.declared.types.Reg.{Reg}
use Rattle.target_base.specs.declared.types.ClassId.{ClassId}
use Rattle.target_base.specs.declared.types.IndexId.{IndexId}
use Rattle.target_base.specs.declared.types.Effect.{Effect}
use Rattle.target_base.specs.declared.types.Effect.TheVariants as effects
use Rattle.target_base.specs.declared.types.Role.{Role}
use Rattle.target_base.specs.declared.types.Target.{Target}
use Rattle.target_base.specs.Registers.{units_of, regs_of, class_of_widths}
use Rattle.target_base.specs.Roles.{is_tied}
use Rattle.target_base.specs.Rules.{is_copy, is_implicit_def}
use Rattle.target_base.specs.Storage.{is_among, is_unreserved}
use Rattle.meaning.specs.declared.types.Lane.TheVariants.{UnitLane}
use Rattle.meaning.specs.Live.{Among}
use Rattle.mir_func.specs.declared.func.Loc.{Loc}
use Rattle.mir_func.specs.declared.func.Loc.TheVariants.{Virtual, Fixed}
use Rattle.mir_func.specs.declared.func.RegOp.{RegOp}
use Rattle.mir_func.specs.declared.func.Operand.{Operand}
use Rattle.mir_func.specs.declared.func.Operand.TheVariants as operands
use Rattle.mir_func.specs.declared.func.Place.{Place}
use Rattle.mir_func.specs.declared.func.Instr.{Instr}
use Rattle.mir_func.specs.declared.func.Block.{Block}
use Rattle.mir_func.specs.Value.{Function}
use Rattle.mir_func.specs.Binding.{effect_of, does, passes, is_terminator, registers, Bound, bound, is_early, ties_to, TiedPair, tied_pairs, numbered, operand_class, same_loc, same_index, is_lowered_away, is_virtual}
use Rattle.mir_meaning.specs.Registers.{operand_widths}
use Rattle.mir_meaning.specs.Points.{Point, Start, Entry, Exit, LiveAt, OccupiedAt, Tests}
use Rattle.mir_meaning.specs.Rules.{spills_or_reloads, readings, readings_besides}
use Rattle.mir_meaning.specs.Codes.{instrs_of}

-- a use; a definition, which may be tied or early-clobber; both sides of a copy
pub data Kind : Type 0 where
  Using Copying : Kind
  Defining : (tied early : Bool) → Kind

-- what needs a register of its class at a place
pub record Variable : Type 0 where
  pub kind : Kind
  pub range : ℕ
  pub index : Option IndexId
  pub class : Option ClassId

-- a variable of these parts
abbrev pub variable : Kind → ℕ → Option IndexId → Option ClassId → Variable
variable kind v x c = record { kind = kind; range = v; index = x; class = c }

-- a definition
abbrev pub is_defining : Kind → Bool
is_defining (Defining tied early) = true
is_defining _ = false

-- a tied or early-clobber definition holds its register while the uses are read
abbrev pub reaches_back : Kind → Bool
reaches_back (Defining tied early) = tied || early
reaches_back _ = true

-- the variable of a register operand; physical registers have none
abbrev pub register_variable : Target → Function → Bool → Option Role → RegOp → Loc → Option Variable
register_variable t f is_tied_definition r o (Fixed q) = None
register_variable t f is_tied_definition r o (Virtual v) =
    cond o.def
    (Some (variable (Defining is_tied_definition (passes is_early r)) v o.index (operand_class t f r o)))
    (cond (o.undef || passes is_tied r) None (Some (variable Using v o.index (operand_class t f r o))))

-- the variable of an operand: each virtual definition, and each virtual use that is neither `undef` nor tied
abbrev pub operand_variable : Target → Function → Bool → Bound → Option Variable
operand_variable t f is_tied_definition (r, operands.Reg o) = register_variable t f is_tied_definition r o o.loc
operand_variable t f is_tied_definition (r, o) = None

-- the opcode ties a use to its definition of that number
abbrev pub has_tied_use : Target → Instr → ℕ → Bool
has_tied_use t i n = list_any (λ b. passes (ties_to n) b.0) (bound t i)

-- the variables of an instruction's operands, in order
abbrev pub operand_variables : Target → Function → Instr → List Variable
operand_variables t f i = filter_map (λ p. operand_variable t f (has_tied_use t i p.0) p.1) (numbered 0 (bound t i))

-- the variable of a copy of lanes of these widths, which has no range of its own
abbrev pub copy_variable : Target → List ℕ → Variable
copy_variable t ws = variable Copying 0 None (class_of_widths t ws)

-- a copy has a variable where both sides are virtual
abbrev pub copy_variables : Target → Function → List Operand → List Variable
copy_variables t f (operands.Reg d ∷ operands.Reg s ∷ os) = cond (is_virtual d.loc && is_virtual s.loc) (copy_variable t (operand_widths t f d) ∷ []) []
copy_variables t f os = []

-- IMPLICIT_DEF, stores to slots and reloads, which have no variables
abbrev pub moves_alone : Effect → Bool
moves_alone e = is_implicit_def e || spills_or_reloads e

-- the variables of an instruction
abbrev pub instr_variables : Target → Function → Instr → List Variable
instr_variables t f i = cond (does is_copy t i) (copy_variables t f i.operands) (cond (does moves_alone t i) [] (operand_variables t f i))

-- the classes are one, or both are absent
abbrev pub same_class : Option ClassId → Option ClassId → Bool
same_class None None = true
same_class (Some c) (Some d) = nat_eq c.0 d.0
same_class _ _ = false

-- two uses of one register, index and class are one variable
abbrev pub same_use : Variable → Variable → Bool
same_use a b = not (is_defining a.kind || is_defining b.kind) && nat_eq a.range b.range && same_index a.index b.index && same_class a.class b.class

-- each variable once, where it is named first
abbrev pub each_once : List Variable → List Variable → List Variable
each_once seen [] = []
each_once seen (v ∷ vs) = cond (list_any (same_use v) seen) (each_once seen vs) (v ∷ each_once (v ∷ seen) vs)

-- A place: the variables in operand order; the points at whose live and occupied units uses, and definitions,
-- may not lie; and those at whose live units a copy may not lie.
pub record Needs : Type 0 where
  pub variables : List Variable
  pub entries : List Point
  pub exits : List Point
  pub copies : List Point

-- the entries of these instructions, and the exits of all but the last
abbrev pub entries_of : List Instr → List Point
entries_of [] = []
entries_of (i ∷ []) = Entry i.id ∷ []
entries_of (i ∷ j ∷ is) = Entry i.id ∷ Exit i.id ∷ entries_of (j ∷ is)

-- the place of an instruction that is no copy, or of the terminators of a block together: what one of them
-- writes counts at the entry of the next
abbrev pub place_of : Target → Function → List Instr → Needs
place_of t f is = record { variables = each_once [] (flat_map (instr_variables t f) is); entries = entries_of is; exits = map (λ i. Exit i.id) is; copies = [] }

-- the place of one copy
abbrev pub copy_place : List Variable → Point → Needs
copy_place vs p = record { variables = vs; entries = []; exits = []; copies = p ∷ [] }

-- the place of one instruction
abbrev pub instr_place : Target → Function → Instr → Needs
instr_place t f i = cond (does is_copy t i) (copy_place (instr_variables t f i) (Entry i.id)) (place_of t f (i ∷ []))

-- the entry of the first terminator, or the point behind the last instruction
abbrev pub before_terminators : Target → Point → List Instr → Point
before_terminators t p [] = p
before_terminators t p (i ∷ is) = cond (does is_terminator t i) (Entry i.id) (before_terminators t (Exit i.id) is)

-- where lowering puts the copy of a phi's operand in block n
abbrev pub phi_point : Target → Function → ℕ → Point
phi_point t f n = before_terminators t (Start n) (instrs_of f.blocks n)

-- a copy that lowering makes, of the widths of this operand
abbrev pub copied_at : Target → Function → Point → RegOp → Needs
copied_at t f p o = copy_place (copy_variable t (operand_widths t f o) ∷ []) p

-- the copies for a phi's operands, each in its block
abbrev pub phi_copies : Target → Function → List Operand → List Needs
phi_copies t f (operands.Reg s ∷ operands.Block n ∷ os) = cond s.undef (phi_copies t f os) (copied_at t f (phi_point t f n) s ∷ phi_copies t f os)
phi_copies t f os = []

-- one of the operands is the definition's register
abbrev pub defines_and_reads : RegOp → List RegOp → Bool
defines_and_reads d os = list_any (λ o. same_loc d.loc o.loc) os

-- the copies of inputs that aren't `undef`, and one behind them where the result itself is an input that would
-- be overwritten
abbrev pub input_copies : Target → Function → Point → RegOp → List RegOp → List RegOp → List Needs
input_copies t f p d inputs overwritten = map (copied_at t f p) (readings inputs) ++ cond (defines_and_reads d overwritten) (copied_at t f p d ∷ []) []

-- the copy before a tied use that isn't its definition's register and index already; and one behind, where that
-- register is read besides
abbrev pub tied_copies : Target → Function → Instr → TiedPair → List Needs
tied_copies t f i p =
    cond (p.tied_use.undef || not (is_virtual p.definition.loc) || (same_loc p.definition.loc p.tied_use.loc && same_index p.definition.index p.tied_use.index)) []
    (copied_at t f (Entry i.id) p.definition ∷ cond (defines_and_reads p.definition (readings_besides p.number (bound t i))) (copied_at t f (Exit i.id) p.definition ∷ []) [])

-- the copies that lowering makes of an instruction, by its effect
abbrev pub effect_copies : Target → Function → Instr → List Operand → Effect → List Needs
effect_copies t f i (operands.Reg d ∷ os) effects.Phi = phi_copies t f os ++ (copied_at t f (Entry i.id) d ∷ [])
effect_copies t f i (operands.Reg d ∷ os) effects.RegSequence = input_copies t f (Entry i.id) d (registers os) (registers os)
effect_copies t f i (operands.Reg d ∷ o ∷ os) effects.InsertSubreg = input_copies t f (Entry i.id) d (registers (o ∷ os)) (registers os)
effect_copies t f i os e = flat_map (tied_copies t f i) (tied_pairs t i)

-- the places of the copies that lowering makes of an instruction
abbrev pub lowering_places : Target → Function → Instr → List Needs
lowering_places t f i = elim (effect_of t i) [ None ↦ [] | Some e ↦ effect_copies t f i i.operands e ]

-- the place of instruction j itself; the terminators are one place at the first of them
abbrev pub own_places : Target → Function → Block → ℕ → Instr → List Needs
own_places t f b j i =
    cond (does is_terminator t i)
    (cond (list_any (does is_terminator t) (take j b.instrs)) [] (place_of t f (drop j b.instrs) ∷ []))
    (cond (does is_lowered_away t i) [] (instr_place t f i ∷ []))

-- the places that instruction j of a block gives its name to
unfoldable pub places_at : Target → Function → Block → ℕ → Instr → List Needs
places_at t f b j i = own_places t f b j i ++ lowering_places t f i

-- the units at a place that uses and copies avoid, and those that definitions avoid
abbrev pub AtEntry : Target → Function → Needs → ℕ → Type 0
AtEntry t f p u = ((q : Point) × Among q p.entries × OccupiedAt t f q (UnitLane u)) ⊎ ((q : Point) × Among q p.copies × LiveAt t f q (UnitLane u))

-- the unit is live or occupied at one of the exits
abbrev pub AtExit : Target → Function → Needs → ℕ → Type 0
AtExit t f p u = (q : Point) × Among q p.exits × OccupiedAt t f q (UnitLane u)

-- the class without reserved registers, in allocation order
abbrev pub domain : Target → Option ClassId → List Reg
domain t None = []
domain t (Some c) = filter (is_unreserved t.reserved t.regs) (regs_of t c)

-- the register holds a unit that the test tells
abbrev pub holds_any : Target → (ℕ → Bool) → Reg → Bool
holds_any t units r = list_any (λ u. units u.0) (units_of t r)

-- the registers share a unit
abbrev pub share_a_unit : Target → Reg → Reg → Bool
share_a_unit t r q = list_any (is_among (units_of t r)) (units_of t q)

-- the register avoids the fixed units at the place
abbrev pub avoids_units : Target → (ℕ → Bool) → (ℕ → Bool) → Variable × Reg → Bool
avoids_units t entry exit p = (not (reaches_back p.0.kind) || not (holds_any t entry p.1)) && (not (is_defining p.0.kind) || not (holds_any t exit p.1))

-- two uses, two definitions, or a use and a definition that holds its register while uses are read
abbrev pub must_be_apart : Kind → Kind → Bool
must_be_apart a b = beq (is_defining a) (is_defining b) || (reaches_back a && reaches_back b)

-- those that must be apart share no unit, pair by pair
abbrev pub all_apart : Target → List (Variable × Reg) → Bool
all_apart t [] = true
all_apart t (p ∷ ps) = list_all (λ q. not (must_be_apart p.0.kind q.0.kind && share_a_unit t p.1 q.1)) ps && all_apart t ps

-- the choice gives each variable a register that serves
abbrev pub serves : Target → (ℕ → Bool) → (ℕ → Bool) → List Variable → List Reg → Bool
serves t entry exit vs rs = all_apart t (zip vs rs) && list_all (avoids_units t entry exit) (zip vs rs)

-- all choices, one of each list, the first list's choice counting most in their order
abbrev pub choices : List (List Reg) → List (List Reg)
choices [] = [] ∷ []
choices (rs ∷ rest) = flat_map (λ r. map (λ qs. r ∷ qs) (choices rest)) rs

-- the choices for these variables that serve, in order: variables in operand order, registers in allocation order
unfoldable pub solutions : Target → (ℕ → Bool) → (ℕ → Bool) → List Variable → List (List Reg)
solutions t entry exit vs = filter (serves t entry exit vs) (choices (map (λ v. domain t v.class) vs))

-- these tests tell the fixed units of the place
abbrev pub UnitsOf : Target → Function → Needs → (ℕ → Bool) → (ℕ → Bool) → Type 0
UnitsOf t f p entry exit = Tests (AtEntry t f p) entry × Tests (AtExit t f p) exit

-- some choice serves
abbrev pub Admits : Target → Function → Needs → Type 0
Admits t f p = (entry exit : ℕ → Bool) × UnitsOf t f p entry exit × (nat_lt 0 (length (solutions t entry exit p.variables)) ≡ true)

-- the place is one to which instruction j of block k gives its name
pub record StandsAt (t : Target) (f : Function) (k j : ℕ) (p : Needs) : Type 0 where
  pub block : Block
  pub instr : Instr
  pub is_block : slice_get f.blocks k ≡ Some block
  pub is_instr : slice_get block.instrs j ≡ Some instr
  pub is_place : Among p (places_at t f block j instr)

-- instruction j of block k stands before instruction i of block l
abbrev pub Earlier : ℕ → ℕ → ℕ → ℕ → Type 0
Earlier k j l i = (k < l) ⊎ ((k ≡ l) × (j < i))

-- the name of the first place in layout of which P holds
pub record FirstPlace (t : Target) (f : Function) (P : Needs → Type 0) (name : Place) : Type 0 where
  pub k : ℕ
  pub place : Needs
  pub stands : StandsAt t f k name.at place
  pub is_block : stands.block.number ≡ name.block
  pub holds : P place
  pub first : (l i : ℕ) (q : Needs) → StandsAt t f l i q → Earlier l i k name.at → P q → ⊥

-- the place has too many variables, more than 6
abbrev pub TooMany : Needs → Type 0
TooMany p = 6 < length p.variables

-- every place has few enough variables and admits a choice
abbrev pub PlacesServe : Target → Function → Type 0
PlacesServe t f = (k j : ℕ) (p : Needs) → StandsAt t f k j p → (TooMany p → ⊥) × Admits t f p
