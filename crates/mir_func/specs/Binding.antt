-- How the operands of an instruction meet the roles of its opcode.
use Rattle.std.specs.Prelude.{ℕ, suc, Bool, true, false, cond, not, ◌&&◌, ◌||◌, ◌==◌, nat_eq, List, [], ◌∷◌, ◌++◌, map, filter, filter_map, find, Option, Some, None, option_map, option_and_then, slice_get, ℤ, pos}
use Rattle.target_base.specs.declared.types.Reg.{Reg}
use Rattle.target_base.specs.declared.types.ClassId.{ClassId}
use Rattle.target_base.specs.declared.types.IndexId.{IndexId}
use Rattle.target_base.specs.declared.types.Effect.{Effect}
use Rattle.target_base.specs.declared.types.Effect.TheVariants as effects
use Rattle.target_base.specs.declared.types.OpaqueKind.TheVariants as kinds
use Rattle.target_base.specs.declared.types.Role.{Role}
use Rattle.target_base.specs.declared.types.Role.TheVariants as roles
use Rattle.target_base.specs.declared.types.OpcodeDesc.{OpcodeDesc}
use Rattle.target_base.specs.declared.types.Target.{Target}
use Rattle.target_base.specs.Registers.{move_class}
use Rattle.target_base.specs.Rules.{is_phi, is_reg_sequence, is_insert_subreg}
use Rattle.target_base.specs.Roles.{is_implicit, is_tied, is_any, role_class}
use Rattle.mir_func.specs.declared.func.Loc.{Loc}
use Rattle.mir_func.specs.declared.func.Loc.TheVariants.{Virtual, Fixed}
use Rattle.mir_func.specs.declared.func.RegOp.{RegOp}
use Rattle.mir_func.specs.declared.func.Operand.{Operand}
use Rattle.mir_func.specs.declared.func.Operand.TheVariants as operands
use Rattle.mir_func.specs.declared.func.Op.{Op}
use Rattle.mir_func.specs.declared.func.Op.TheVariants as ops
use Rattle.mir_func.specs.declared.func.Instr.{Instr}
use Rattle.mir_func.specs.Value.{Function}

-- the opcode's description; an excluded opcode has none
abbrev pub known_opcode : Target → Op → Option OpcodeDesc
known_opcode t (ops.Known o) = slice_get t.opcodes o.0
known_opcode t (ops.Excluded name) = None

-- what the opcode computes; nothing where it is an excluded one
abbrev pub effect_of : Target → Instr → Option Effect
effect_of t i = option_map (λ d. d.effect) (known_opcode t i.op)

-- there is a value, and it passes the test
abbrev pub passes : {X : Type 0} → (X → Bool) → Option X → Bool
passes test None = false
passes test (Some x) = test x

-- the instruction has an effect that passes the test
abbrev pub does : (Effect → Bool) → Target → Instr → Bool
does test t i = passes test (effect_of t i)

-- a branch that is taken under a condition
abbrev pub is_conditional : Effect → Bool
is_conditional effects.Jcc = true
is_conditional effects.Jnz = true
is_conditional (effects.Opaque kinds.Branch) = true
is_conditional _ = false

-- control doesn't go on behind it
abbrev pub ends_control : Effect → Bool
ends_control effects.Jump = true
ends_control effects.Ret = true
ends_control (effects.Opaque kinds.Return) = true
ends_control _ = false

-- a jump, a conditional branch or a return
abbrev pub is_terminator : Effect → Bool
is_terminator e = ends_control e || is_conditional e

-- a jump or a conditional branch
abbrev pub is_branch : Effect → Bool
is_branch effects.Jump = true
is_branch e = is_conditional e

-- REG_SEQUENCE and INSERT_SUBREG
abbrev pub puts_together : Effect → Bool
puts_together e = is_reg_sequence e || is_insert_subreg e

-- PHI, REG_SEQUENCE and INSERT_SUBREG
abbrev pub is_lowered_away : Effect → Bool
is_lowered_away e = is_phi e || puts_together e

-- a register operand that is marked implicit
abbrev pub is_implicit_operand : Operand → Bool
is_implicit_operand (operands.Reg o) = o.implicit
is_implicit_operand _ = false

-- the location is a virtual register
abbrev pub is_virtual : Loc → Bool
is_virtual (Virtual v) = true
is_virtual (Fixed r) = false

-- an explicit definition
abbrev pub is_definition : RegOp → Bool
is_definition o = o.def && not o.implicit

-- an explicit use
abbrev pub is_use : RegOp → Bool
is_use o = not o.def && not o.implicit

-- the locations are one register
abbrev pub same_loc : Loc → Loc → Bool
same_loc (Virtual v) (Virtual w) = nat_eq v w
same_loc (Fixed r) (Fixed q) = r.0 == q.0
same_loc a b = false

-- the indexes are one, or both are absent
abbrev pub same_index : Option IndexId → Option IndexId → Bool
same_index None None = true
same_index (Some x) (Some y) = x.0 == y.0
same_index x y = false

-- the operands that aren't implicit, in order
abbrev pub explicit_operands : List Operand → List Operand
explicit_operands os = filter (λ o. not (is_implicit_operand o)) os

-- the operand as a register operand, where it is one
abbrev pub as_register : Operand → Option RegOp
as_register (operands.Reg o) = Some o
as_register _ = None

-- the register operands, in order
abbrev pub registers : List Operand → List RegOp
registers os = filter_map as_register os

-- the register operand at a place, if one is
abbrev pub register_at : List Operand → ℕ → Option RegOp
register_at os k = option_and_then as_register (slice_get os k)

-- the implicit register operands, in order
abbrev pub implicit_registers : List Operand → List RegOp
implicit_registers os = filter (λ o. o.implicit) (registers os)

-- the location is that physical register
abbrev pub same_fixed : Reg → Loc → Bool
same_fixed r (Virtual v) = false
same_fixed r (Fixed q) = r.0 == q.0

-- the implicit operand is what the role names
abbrev pub takes_role : RegOp → Role → Bool
takes_role o (roles.ImpDef r) = o.def && same_fixed r o.loc
takes_role o (roles.ImpRead r) = not o.def && same_fixed r o.loc
takes_role o _ = false

-- the role stands for any number of operands
abbrev pub takes_many : Role → Bool
takes_many roles.Any = true
takes_many roles.Rest = true
takes_many _ = false

-- an operand with its role; a further implicit operand, and one of COPY, PHI and their like, has none
abbrev pub Bound : Type 0
Bound = Option Role × Operand

-- explicit operands take one role after the other; `any` and `rest` stand for all that are left
abbrev pub explicit_bound : List Role → List Operand → List Bound
explicit_bound rs [] = []
explicit_bound [] (o ∷ os) = (None, o) ∷ explicit_bound [] os
explicit_bound (r ∷ rs) (o ∷ os) = (Some r, o) ∷ explicit_bound (cond (takes_many r) (r ∷ rs) rs) os

-- the role that the next explicit operand takes
abbrev pub first_role : List Role → Option Role
first_role [] = None
first_role (r ∷ rs) = Some r

-- the roles that are left behind it
abbrev pub after_first : List Role → List Role
after_first [] = []
after_first (r ∷ rs) = cond (takes_many r) (r ∷ rs) rs

-- an implicit operand takes the role that names its register, if there is one
abbrev pub implicit_bound : List Role → RegOp → Bound
implicit_bound rs o = (find (takes_role o) rs, operands.Reg o)

-- the roles of explicit operands, in order
abbrev pub explicit_roles : List Role → List Role
explicit_roles rs = filter (λ r. not (is_implicit r)) rs

-- the roles of implicit operands, in order
abbrev pub implicit_roles : List Role → List Role
implicit_roles rs = filter is_implicit rs

-- the roles of an instruction's opcode; an excluded one has none
abbrev pub roles_of : Target → Instr → List Role
roles_of t i = elim (known_opcode t i.op) [ None ↦ [] | Some d ↦ d.roles ]

-- the operands with their roles: explicit ones before implicit ones
abbrev pub bound : Target → Instr → List Bound
bound t i = explicit_bound (explicit_roles (roles_of t i)) (explicit_operands i.operands) ++ map (implicit_bound (implicit_roles (roles_of t i))) (implicit_registers i.operands)

-- an early-clobber definition's role
abbrev pub is_early : Role → Bool
is_early (roles.Early k) = true
is_early _ = false

-- the first definition of the opcode is an early-clobber one
abbrev pub is_early_clobber : List Role → Bool
is_early_clobber (roles.Early k ∷ rs) = true
is_early_clobber rs = false

-- an explicit definition, and whether it is an early-clobber one
abbrev pub Definition : Type 0
Definition = Bool × RegOp

-- the explicit definition that the operand is
abbrev pub definition_in : Bound → Option Definition
definition_in (r, operands.Reg o) = cond (is_definition o) (Some (passes is_early r, o)) None
definition_in (r, o) = None

-- the explicit definitions of operands that take these roles, in order
abbrev pub definitions : List Role → List Operand → List Definition
definitions rs os = filter_map definition_in (explicit_bound (explicit_roles rs) (explicit_operands os))

-- the number of the definition to which the role ties its use: its place among the operands
abbrev pub tied_number : Role → Option ℕ
tied_number (roles.Tied k n) = Some n
tied_number _ = None

-- the role ties its use to the definition of that number
abbrev pub ties_to : ℕ → Role → Bool
ties_to n r = passes (nat_eq n) (tied_number r)

-- a definition and a use that share a register, with the number of the definition
pub record TiedPair : Type 0 where
  pub number : ℕ
  pub definition : RegOp
  pub tied_use : RegOp

-- the pair of the definition of a number, if it is there, and a use
abbrev pub paired_with : List Operand → RegOp → Option ℕ → Option TiedPair
paired_with os u None = None
paired_with os u (Some n) = option_map (λ d. record { number = n; definition = d; tied_use = u }) (register_at os n)

-- the tied pair of an operand whose role is tied
abbrev pub tied_pair : List Operand → Bound → Option TiedPair
tied_pair os (r, operands.Reg u) = paired_with os u (option_and_then tied_number r)
tied_pair os (r, o) = None

-- the definitions and uses that share registers, in the order of the uses
abbrev pub tied_pairs : Target → Instr → List TiedPair
tied_pairs t i = filter_map (tied_pair i.operands) (bound t i)

-- things with their numbers, from n on
abbrev pub numbered : {X : Type 0} → ℕ → List X → List (ℕ × X)
numbered n [] = []
numbered n (x ∷ xs) = (n, x) ∷ numbered (suc n) xs

-- the class of a range number, where it has just one
abbrev pub class_of : Function → ℕ → Option ClassId
class_of f v = elim (slice_get f.classes v) [ None ↦ None | Some c ↦ c ]

-- the first class with the lane widths that the operand has in its class
abbrev pub moving_class : Target → Option ClassId → RegOp → Option ClassId
moving_class t None o = None
moving_class t (Some c) o = move_class t c o.index

-- the class that a role asks of a register
abbrev pub asked_class : Role → Option ClassId
asked_class (roles.Address k) = Some k
asked_class r = role_class r

-- the class of a virtual register in an `any` role; a physical one has none
abbrev pub any_class : Target → Function → RegOp → Loc → Option ClassId
any_class t f o (Virtual v) = moving_class t (class_of f v) o
any_class t f o (Fixed r) = None

-- the operand class: that of the role; for a virtual register in an `any` role the first class with its lane widths
abbrev pub operand_class : Target → Function → Option Role → RegOp → Option ClassId
operand_class t f None o = None
operand_class t f (Some r) o = cond (is_any r) (any_class t f o o.loc) (asked_class r)

-- the operand as a spill slot or another frame object, where it is one
abbrev pub as_slot : Operand → Option ℕ
as_slot (operands.Stack s) = Some s
as_slot _ = None

-- the slot at a place, if one is
abbrev pub slot_at : List Operand → ℕ → Option ℕ
slot_at os k = option_and_then as_slot (slice_get os k)

-- the operand as an immediate, where it is one
abbrev pub as_immediate : Operand → Option ℤ
as_immediate (operands.Imm z) = Some z
as_immediate _ = None

-- the immediate operand, or 0
abbrev pub immediate_of : List Operand → ℤ
immediate_of [] = pos 0
immediate_of (operands.Imm z ∷ os) = z
immediate_of (_ ∷ os) = immediate_of os
