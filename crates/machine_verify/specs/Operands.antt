-- Operands one by one and in pairs.
use Rattle.std.specs.Prelude.{Bool, true, false, ◌&&◌, List, Option, Some, None}
use Rattle.target_base.specs.declared.types.Effect.{Effect}
use Rattle.target_base.specs.declared.types.Role.{Role}
use Rattle.target_base.specs.declared.types.OpcodeDesc.{OpcodeDesc}
use Rattle.target_base.specs.declared.types.Target.{Target}
use Rattle.mir_func.specs.declared.func.Operand.{Operand}
use Rattle.mir_func.specs.declared.func.Operand.TheVariants as operands
use Rattle.mir_func.specs.Value.{Function}
use Rattle.mir_func.specs.Binding.{explicit_roles, explicit_operands, implicit_registers}
use Rattle.mir_func.specs.declared.func.RegOp.{RegOp}
use Rattle.mir_meaning.specs.Rules.{fits_at, is_virtual_use, implicit_last, explicit_fit, implicit_fit, values_fit, same_widths, at_index}

-- there is a role left, and the operand is of the kind that it asks for
abbrev pub fits_next : Target → Effect → Option Role → Operand → Bool
fits_next t e None o = false
fits_next t e (Some r) o = fits_at t e r o

-- an explicit use of a virtual register
abbrev pub reads_virtual : Operand → Bool
reads_virtual (operands.Reg o) = is_virtual_use o
reads_virtual _ = false

abbrev pub is_block : Operand → Bool
is_block (operands.Block n) = true
is_block _ = false

abbrev pub is_index : Operand → Bool
is_index (operands.Index x) = true
is_index _ = false

-- operands fit the roles of an opcode that has roles
abbrev pub fits_roles : Target → Function → OpcodeDesc → List Operand → Bool
fits_roles t f d os = implicit_last os && explicit_fit t d.effect (explicit_roles d.roles) (explicit_operands os) && implicit_fit d (implicit_registers os) && values_fit t f d.effect os

-- an input of a REG_SEQUENCE has the widths of its index; nothing where these aren't an input and an index
abbrev pub part_fits : Target → Function → RegOp → Operand → Operand → Option Bool
part_fits t f d (operands.Reg s) (operands.Index x) = Some (same_widths t f s (at_index d x))
part_fits t f d s x = None
