-- What an instruction reads, writes and moves.
use Rattle.std.specs.Prelude.{ℕ, zero, suc, ◌+◌, Bool, true, false, cond, not, ◌&&◌, nat_lt, ℤ, pos, nat_abs, sum, List, [], ◌∷◌, ◌++◌, map, filter, filter_map, flat_map, length, Option, Some, None, slice_get}
use Rattle.target_base.specs.declared.types.Effect.{Effect}
use Rattle.target_base.specs.declared.types.Effect.TheVariants as effects
use Rattle.target_base.specs.declared.types.MaskId.{MaskId}
use Rattle.target_base.specs.declared.types.Role.{Role}
use Rattle.target_base.specs.declared.types.Unit.{Unit as UnitNumber}
use Rattle.target_base.specs.declared.types.UnitDesc.{UnitDesc}
use Rattle.target_base.specs.declared.types.Target.{Target}
use Rattle.target_base.specs.Registers.{units_of}
use Rattle.target_base.specs.Storage.{is_among, unit_width}
use Rattle.target_base.specs.Numbers.{unit_number}
use Rattle.std.specs.List.{list_any}
use Rattle.target_base.specs.Roles.{bound_roles, is_address}
use Rattle.target_base.specs.declared.types.OpaqueKind.{OpaqueKind}
use Rattle.target_base.specs.declared.types.OpaqueKind.TheVariants as kinds
use Rattle.meaning.specs.declared.types.Lane.{Lane}
use Rattle.meaning.specs.declared.types.Lane.TheVariants.{UnitLane, SlotLane}
use Rattle.meaning.specs.declared.types.Constant.{Constant}
use Rattle.meaning.specs.declared.types.Constant.TheVariants.{Immediate, StackAddress, FixedStackAddress, SymbolAddress}
use Rattle.meaning.specs.declared.types.Source.{Source}
use Rattle.meaning.specs.declared.types.Source.TheVariants.{FromLane, Undef}
use Rattle.meaning.specs.declared.types.Fill.{Fill}
use Rattle.meaning.specs.declared.types.Fill.TheVariants.{Moved, Computed}
use Rattle.meaning.specs.declared.types.Write.{Write}
use Rattle.meaning.specs.declared.types.Rest.{Rest}
use Rattle.meaning.specs.Lanes.{Writes, Reads}
use Rattle.meaning.specs.Environment.{residue, constant_source}
use Rattle.meaning.specs.Perform.{condition_lane}
use Rattle.mir_func.specs.declared.func.RegOp.{RegOp}
use Rattle.mir_func.specs.declared.func.Operand.{Operand}
use Rattle.mir_func.specs.declared.func.Operand.TheVariants as operands
use Rattle.mir_func.specs.declared.func.Instr.{Instr}
use Rattle.mir_func.specs.Value.{Function}
use Rattle.mir_func.specs.Binding.{explicit_operands, implicit_registers, registers, takes_role, roles_of, implicit_roles, explicit_roles, explicit_bound, Bound, passes, Definition, definitions, immediate_of}
use Rattle.mir_func.specs.Spelling.{event_name}
use Rattle.mir_meaning.specs.Registers.{has_number, numbers, operand_lanes, operand_widths, use_sources, undefined_lanes, located_lanes, slot_lane_numbers, slot_lanes, is_reserved}

-- a write of a lane
abbrev pub write : Bool → Lane → Fill → Write
write early l fill = record { lane = l; fill = fill; early = early }

-- each lane is given its source, all at once
abbrev pub moved : Bool → List Lane → List Source → Writes
moved early [] ss = []
moved early (l ∷ ls) [] = []
moved early (l ∷ ls) (s ∷ ss) = write early l (Moved s) ∷ moved early ls ss

-- each lane becomes Undef
abbrev pub undefined : Bool → List Lane → Writes
undefined early ls = map (λ l. write early l (Moved Undef)) ls

-- each lane is given a value of the result, from number n on
abbrev pub computed : Bool → ℕ → List Lane → Writes
computed early n [] = []
computed early n (l ∷ ls) = write early l (Computed n) ∷ computed early (suc n) ls

-- a definition that is given sources; where it is `undef` the other lanes become Undef
abbrev pub defined : Target → Function → Bool → RegOp → List Source → Writes
defined t f early d ss = moved early (operand_lanes t f d) ss ++ undefined early (undefined_lanes t f d)

-- the bits of a constant at lanes of these widths, from bit `low` on
abbrev pub constant_bits : Constant → ℕ → List ℕ → List Source
constant_bits c low [] = []
constant_bits c low (w ∷ ws) = constant_source c low w ∷ constant_bits c (low + w) ws

-- an operand that is a constant; an immediate counts modulo 2 ^ w
abbrev pub constant_of : ℕ → Operand → Option Constant
constant_of w (operands.Imm z) = Some (Immediate (residue z w))
constant_of w (operands.Stack n) = Some (StackAddress n)
constant_of w (operands.FixedStack n) = Some (FixedStackAddress n)
constant_of w (operands.Symbol name) = Some (SymbolAddress name)
constant_of w _ = None

-- what the instructions move that count for nothing in a run

-- COPY: the lanes of the source go to those of the definition
abbrev pub copied : Target → Function → List Operand → Writes
copied t f (operands.Reg d ∷ operands.Reg s ∷ os) = defined t f false d (use_sources t f s)
copied t f _ = []

-- IMPLICIT_DEF: the lanes become Undef
abbrev pub defined_undef : Target → Function → List Operand → Writes
defined_undef t f (operands.Reg d ∷ os) = undefined false (operand_lanes t f d ++ undefined_lanes t f d)
defined_undef t f _ = []

-- the parts of a REG_SEQUENCE, each in the lanes of its index
abbrev pub parts : Target → Function → RegOp → List Operand → Writes
parts t f d (operands.Reg s ∷ operands.Index x ∷ os) = moved false (located_lanes t f d.loc (Some x)) (use_sources t f s) ++ parts t f d os
parts t f d _ = []

-- REG_SEQUENCE: the parts, and Undef in the lanes that no part fills
abbrev pub sequenced : Target → Function → List Operand → Writes
sequenced t f (operands.Reg d ∷ os) = parts t f d os ++ undefined false (operand_lanes t f d)
sequenced t f _ = []

-- INSERT_SUBREG: the part at its index, and the first input in the other lanes
abbrev pub inserted : Target → Function → List Operand → Writes
inserted t f (operands.Reg d ∷ operands.Reg a ∷ operands.Reg b ∷ operands.Index x ∷ os) =
    moved false (located_lanes t f d.loc (Some x)) (use_sources t f b) ++ moved false (operand_lanes t f d) (use_sources t f a)
inserted t f _ = []

-- a constant's bits at the lanes of a definition
abbrev pub constant_lanes : Target → Function → RegOp → Option Constant → List Source
constant_lanes t f d None = []
constant_lanes t f d (Some c) = constant_bits c 0 (operand_widths t f d)

-- a definition that is given an immediate or an address
abbrev pub given_constant : Target → Function → Bool → List Operand → Writes
given_constant t f early (operands.Reg d ∷ o ∷ os) = defined t f early d (constant_lanes t f d (constant_of (sum (operand_widths t f d)) o))
given_constant t f early _ = []

-- the slot lanes beside the lanes of a register operand
abbrev pub lanes_beside : Target → Function → RegOp → ℕ → Operand → List Lane
lanes_beside t f o s k = slot_lanes s (slot_lane_numbers t (operand_widths t f o) k) (operand_widths t f o)

-- the widths of units, each once, behind those that are known
abbrev pub widths_once : List ℕ → List UnitDesc → List ℕ
widths_once known [] = known
widths_once known (d ∷ ds) = widths_once (cond (has_number known d.width) known (known ++ (d.width ∷ []))) ds

-- these lanes of a slot at every width
abbrev pub at_all_widths : Target → ℕ → List ℕ → List Lane
at_all_widths t s ks = flat_map (λ k. map (λ w. SlotLane s k w) (widths_once [] t.units)) ks

-- a store; what the slot's lanes held at other widths is Undef then
abbrev pub spilled : Target → Function → List Operand → Writes
spilled t f (operands.Reg o ∷ operands.Stack s ∷ k ∷ os) =
    moved false (lanes_beside t f o s k) (use_sources t f o) ++ undefined false (at_all_widths t s (slot_lane_numbers t (operand_widths t f o) k))
spilled t f _ = []

-- a reload: the slot's lanes go to those of the register
abbrev pub reloaded : Target → Function → Bool → List Operand → Writes
reloaded t f early (operands.Reg o ∷ operands.Stack s ∷ k ∷ os) = defined t f early o (map FromLane (lanes_beside t f o s k))
reloaded t f early _ = []

-- What a silent instruction writes. A phi writes on the way into its block, and so nothing where it stands.
abbrev pub silent_writes : Target → Function → Effect → Bool → List Operand → Writes
silent_writes t f effects.Copy early os = copied t f os
silent_writes t f effects.ImplicitDef early os = defined_undef t f os
silent_writes t f effects.RegSequence early os = sequenced t f os
silent_writes t f effects.InsertSubreg early os = inserted t f os
silent_writes t f effects.Const early os = given_constant t f early os
silent_writes t f effects.Addr early os = given_constant t f early os
silent_writes t f effects.Spill early os = spilled t f os
silent_writes t f effects.Reload early os = reloaded t f early os
silent_writes t f _ early os = []

-- the register operands that aren't definitions
abbrev pub uses : List Operand → List RegOp
uses os = filter (λ o. not o.def) (registers os)

-- REG_SEQUENCE and INSERT_SUBREG read their inputs whether or not what they fill is live; other silent ones only move
abbrev pub silent_reads : Target → Function → Effect → List Operand → Reads
silent_reads t f effects.RegSequence os = map (use_sources t f) (uses os)
silent_reads t f effects.InsertSubreg os = map (use_sources t f) (uses os)
silent_reads t f _ os = []

-- an operand that a counted instruction reads: its sources and their widths
abbrev pub Value : Type 0
Value = List Source × List ℕ

-- a use with its widths
abbrev pub use_value : Target → Function → RegOp → Value
use_value t f o = (use_sources t f o, operand_widths t f o)

-- a constant with its width
abbrev pub constant_value : Constant → ℕ → Value
constant_value c w = (constant_source c 0 w ∷ [], w ∷ [])

-- an immediate of these is an operand as a register is; of others it is an offset or a condition
abbrev pub computes_with_immediates : Effect → Bool
computes_with_immediates e = nat_lt 0 (bound_roles e)

-- a load or a store
abbrev pub has_base : Effect → Bool
has_base (effects.Load s) = true
has_base (effects.Store s) = true
has_base _ = false

-- what an explicit operand gives to read: a use; an immediate, at w bits; a base that is no register, as an
-- address of 64 bits
abbrev pub value_of : Target → Function → Effect → ℕ → Operand → Option Value
value_of t f e w (operands.Reg o) = cond o.def None (Some (use_value t f o))
value_of t f e w (operands.Imm z) = cond (computes_with_immediates e) (Some (constant_value (Immediate (residue z w)) w)) None
value_of t f e w (operands.Stack n) = cond (has_base e) (Some (constant_value (StackAddress n) 64)) None
value_of t f e w (operands.FixedStack n) = cond (has_base e) (Some (constant_value (FixedStackAddress n) 64)) None
value_of t f e w (operands.Symbol name) = cond (has_base e) (Some (constant_value (SymbolAddress name) 64)) None
value_of t f e w _ = None

-- the bits of the first register operand: the definition, or the first operand of a comparison
abbrev pub first_width : Target → Function → List RegOp → ℕ
first_width t f [] = 0
first_width t f (o ∷ os) = sum (operand_widths t f o)

-- the symbol operand, or nothing
abbrev pub symbol_of : List Operand → List ℕ
symbol_of [] = []
symbol_of (operands.Symbol name ∷ os) = name
symbol_of (_ ∷ os) = symbol_of os

-- the operand is what the first implicit role names: the flags of a comparison or of a conditional jump
abbrev pub is_flags : List Role → RegOp → Bool
is_flags [] o = false
is_flags (r ∷ rs) o = takes_role o r

-- the element at a place alone, as a list
abbrev pub pick : {X : Type 0} → ℕ → List X → List X
pick k [] = []
pick zero (x ∷ xs) = x ∷ []
pick (suc k) (x ∷ xs) = pick k xs

-- the flag that a conditional jump reads
abbrev pub flag_value : Target → Function → ℤ → RegOp → Value
flag_value t f c o = (pick (condition_lane (nat_abs c)) (use_sources t f o), pick (condition_lane (nat_abs c)) (operand_widths t f o))

-- what is read implicitly: a conditional jump reads the flag of its condition first
abbrev pub implicit_values : Target → Function → Effect → ℤ → List Role → List RegOp → List Value
implicit_values t f effects.Jcc c rs os = map (flag_value t f c) (filter (is_flags rs) os) ++ map (use_value t f) (filter (λ o. not (is_flags rs o)) os)
implicit_values t f _ c rs os = map (use_value t f) os

-- all that a counted instruction reads, operand by operand
abbrev pub values : Target → Function → Effect → Instr → List Value
values t f e i =
    filter_map (value_of t f e (first_width t f (registers i.operands))) (explicit_operands i.operands)
    ++ implicit_values t f e (immediate_of i.operands) (implicit_roles (roles_of t i)) (filter (λ o. not o.def) (implicit_registers i.operands))

-- the lanes that aren't reserved
abbrev pub unreserved : Target → List Lane → List Lane
unreserved t ls = filter (λ l. not (is_reserved t l)) ls

-- the explicit definitions
abbrev pub explicit_definitions : List Operand → List RegOp
explicit_definitions os = filter (λ o. o.def && not o.implicit) (registers os)

-- the implicit definitions
abbrev pub implicit_definitions : List Operand → List RegOp
implicit_definitions os = filter (λ o. o.def) (implicit_registers os)

-- the lanes of several register operands, in order
abbrev pub all_lanes : Target → Function → List RegOp → List Lane
all_lanes t f os = flat_map (operand_lanes t f) os

-- the unreserved units that a call's implicit definitions get from its answer
abbrev pub answered : Target → Function → List Operand → List Lane
answered t f os = unreserved t (all_lanes t f (implicit_definitions os))

-- the units that a mask preserves
abbrev pub mask_units : Target → MaskId → List UnitNumber
mask_units t k = elim (slice_get t.masks k.0) [ None ↦ [] | Some d ↦ flat_map (units_of t) d.regs ]

-- the operand is a mask that preserves the unit
abbrev pub preserves : Target → ℕ → Operand → Bool
preserves t u (operands.Mask k) = is_among (mask_units t k) (unit_number u)
preserves t u _ = false

-- the unreserved units outside the mask of a call
abbrev pub clobbered : Target → List Operand → List Lane
clobbered t os = unreserved t (map UnitLane (filter (λ u. not (list_any (preserves t u) os)) (numbers 0 (length t.units))))

-- the writes of lanes that aren't reserved
abbrev pub kept : Target → Writes → Writes
kept t ws = filter (λ w. not (is_reserved t w.lane)) ws

-- what implicit definitions write, which never change a reserved unit: a comparison's flags and what a call
-- answers have values, the others are Undef
abbrev pub implicit_writes : Target → Function → Effect → List Role → List Operand → Writes
implicit_writes t f effects.Cmp rs os =
    kept t (computed false 0 (all_lanes t f (filter (is_flags rs) (implicit_definitions os))) ++ undefined false (all_lanes t f (implicit_definitions os)))
implicit_writes t f effects.Call rs os = computed false 0 (answered t f os) ++ undefined false (clobbered t os)
implicit_writes t f _ rs os = undefined false (unreserved t (all_lanes t f (implicit_definitions os)))

-- what an opaque call makes Undef
abbrev pub opaque_clobbers : Target → OpaqueKind → List Operand → Writes
opaque_clobbers t kinds.Call os = undefined false (clobbered t os)
opaque_clobbers t kind os = []

-- What implicit definitions of an opaque instruction write: lanes of the answer from number n on. Reserved units that it
-- names take theirs too.
abbrev pub opaque_implicit : Target → Function → OpaqueKind → ℕ → List Operand → Writes
opaque_implicit t f kind n os = computed false n (all_lanes t f (implicit_definitions os)) ++ opaque_clobbers t kind os

-- an explicit definition of a counted instruction: the lanes of the result from number n on, and Undef in the others of
-- an `undef` one
abbrev pub result_writes : Target → Function → Bool → ℕ → RegOp → Writes
result_writes t f early n d = computed early n (operand_lanes t f d) ++ undefined early (undefined_lanes t f d)

-- what explicit definitions write: the first from number n of the result on, each other from where the one before it ends
abbrev pub results : Target → Function → ℕ → List Definition → Writes
results t f n [] = []
results t f n (d ∷ ds) = result_writes t f d.0 n d.1 ++ results t f (n + length (operand_lanes t f d.1)) ds

-- the lanes of explicit definitions, one after the other
abbrev pub defined_lanes : Target → Function → List Definition → List Lane
defined_lanes t f ds = flat_map (λ d. operand_lanes t f d.1) ds

-- what is written beside explicit definitions
abbrev pub further_writes : Target → Function → Effect → Instr → Writes
further_writes t f (effects.Opaque kind) i = opaque_implicit t f kind (length (defined_lanes t f (definitions (roles_of t i) i.operands))) i.operands
further_writes t f e i = implicit_writes t f e (implicit_roles (roles_of t i)) i.operands

-- all that a counted instruction writes
abbrev pub counted_writes : Target → Function → Effect → Instr → Writes
counted_writes t f e i = results t f 0 (definitions (roles_of t i) i.operands) ++ further_writes t f e i

-- the width of a unit's lane
abbrev pub lane_width : Target → Lane → ℕ
lane_width t (UnitLane u) = unit_width t.units (unit_number u)
lane_width t _ = 0

-- the lane widths of what is computed
abbrev pub result_widths : Target → Function → Effect → List Operand → List ℕ
result_widths t f effects.Call os = map (lane_width t) (answered t f os)
result_widths t f (effects.Opaque kind) os = flat_map (operand_widths t f) (explicit_definitions os ++ implicit_definitions os)
result_widths t f _ os = flat_map (operand_widths t f) (explicit_definitions os)

-- the symbol that a call names, or what an opaque instruction shows of itself
abbrev pub named_symbol : Target → Effect → Instr → List ℕ
named_symbol t effects.Call i = symbol_of i.operands
named_symbol t (effects.Opaque kind) i = event_name t i
named_symbol t _ i = []

-- whether a use has to be defined: where its role is that of an address
abbrev pub needs_value : Bound → Option Bool
needs_value (r, operands.Reg o) = cond o.def None (Some (passes is_address r))
needs_value (r, o) = None

-- of each explicit use among operands that take these roles whether it has to be defined
abbrev pub explicit_needs : List Role → List Operand → List Bool
explicit_needs rs os = filter_map needs_value (explicit_bound (explicit_roles rs) (explicit_operands os))

-- of each explicit use of an opaque instruction whether it has to be defined
abbrev pub needed_of : Target → Effect → Instr → List Bool
needed_of t (effects.Opaque kind) i = explicit_needs (roles_of t i) i.operands
needed_of t _ i = []

-- the widths that an operation goes by: those of what it reads, but for a marker, which does nothing with it
abbrev pub read_widths : Effect → List Value → List (List ℕ)
read_widths effects.Marker vs = []
read_widths _ vs = map (λ v. v.1) vs

-- all of a counted instruction that names no register
abbrev pub rest_of : Target → Function → Effect → Instr → Rest
rest_of t f e i = record {
  effect = e;
  widths = read_widths e (values t f e i);
  result = result_widths t f e i.operands;
  immediate = cond (computes_with_immediates e) (pos 0) (immediate_of i.operands);
  symbol = named_symbol t e i;
  needed = needed_of t e i;
}
