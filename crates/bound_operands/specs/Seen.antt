-- Operands with their roles and tied pairs, as code holds them.
use Rattle.std.specs.Prelude.{List, ◌++◌, map}
use Rattle.target_base.specs.declared.types.Role.{Role}
use Rattle.mir_func.specs.declared.func.Operand.{Operand}
use Rattle.mir_func.specs.Binding.{Bound, TiedPair, explicit_bound, explicit_operands, explicit_roles, implicit_bound, implicit_registers, implicit_roles}
use Rattle.bound_operands.specs.declared.BoundOperand.{BoundOperand}
use Rattle.bound_operands.specs.declared.TiedPair.{TiedPair as Pair}

-- the operand with its role
abbrev pub seen : BoundOperand → Bound
seen b = (b.role, b.operand.now)

-- operands with their roles
abbrev pub seen_all : List BoundOperand → List Bound
seen_all bs = map seen bs

-- operands with the roles that they take among these: explicit ones before implicit ones
abbrev pub bound_by : List Role → List Operand → List Bound
bound_by rs os = explicit_bound (explicit_roles rs) (explicit_operands os) ++ map (implicit_bound (implicit_roles rs)) (implicit_registers os)

-- a definition and a use that share a register
abbrev pub seen_pair : Pair → TiedPair
seen_pair p = record { number = p.number; definition = p.definition; tied_use = p.tied_use }
