-- Tests of one role, as data.
use Rattle.std.specs.Prelude.{Bool, List, [], ◌∷◌, Option, Some, None}
use Rattle.std.specs.Borrow.{Bor}
use Rattle.target_base.specs.declared.types.ClassId.{ClassId}
use Rattle.target_base.specs.declared.types.Role.{Role}
use Rattle.target_base.specs.Roles.{is_definition, is_use, is_use_or_immediate, is_immediate, is_frame_or_symbol, is_address, is_block, is_symbol, is_mask, is_rest, is_any, is_slot, is_lanes, is_operand, classes_of}
use Rattle.target_desc.specs.declared.roles.RoleTest.{RoleTest}
use Rattle.target_desc.specs.declared.roles.RoleTest.TheVariants as tests

abbrev pub passes : RoleTest → Role → Bool
passes tests.Definition = is_definition
passes tests.Use = is_use
passes tests.UseOrImmediate = is_use_or_immediate
passes tests.Immediate = is_immediate
passes tests.FrameOrSymbol = is_frame_or_symbol
passes tests.Address = is_address
passes tests.Block = is_block
passes tests.Symbol = is_symbol
passes tests.Mask = is_mask
passes tests.Rest = is_rest
passes tests.Any = is_any
passes tests.Slot = is_slot
passes tests.Lanes = is_lanes
passes tests.Operand = is_operand

-- the first class of some roles, and those of the roles behind it
abbrev pub classes_from : Option (ClassId × Bor (List Role)) → List ClassId
classes_from None = []
classes_from (Some p) = p.0 ∷ classes_of p.1.now
