-- Operands with their roles, and the classes that these ask for.
use Rattle.std.specs.Prelude.{cond, List, Option, Some, None}
use Rattle.std.specs.List.{find}
use Rattle.target_base.specs.declared.types.Reg.{Reg}
use Rattle.target_base.specs.declared.types.ClassId.{ClassId}
use Rattle.target_base.specs.declared.types.Role.{Role}
use Rattle.target_base.specs.declared.types.Target.{Target}
use Rattle.target_base.specs.Registers.{regs_of}
use Rattle.target_base.specs.Roles.{is_any}
use Rattle.target_base.specs.Storage.{is_unreserved}
use Rattle.mir_func.specs.declared.func.RegOp.{RegOp}
use Rattle.mir_func.specs.declared.func.Instr.{Instr}
use Rattle.mir_func.specs.Binding.{Bound, explicit_bound, explicit_roles, roles_of, moving_class, asked_class}
use Rattle.phi_elim.specs.Phis.{located_class}

-- the operands with their roles; where explicit operands stand before implicit ones, these are the operands as
-- the opcode means them
abbrev pub seated : Target → Instr → List Bound
seated t i = explicit_bound (explicit_roles (roles_of t i)) i.operands

-- the class that a role asks of a register; in an `any` role the first class with its lane widths
abbrev pub class_asked : Target → List (Option ClassId) → Option Role → RegOp → Option ClassId
class_asked t cs None o = None
class_asked t cs (Some r) o = cond (is_any r) (moving_class t (located_class cs o.loc) o) (asked_class r)

-- the first unreserved register of a class
abbrev pub first_register : Target → Option ClassId → Option Reg
first_register t None = None
first_register t (Some c) = find (is_unreserved t.reserved t.regs) (regs_of t c)
