-- Lowered form of instructions.
use Rattle.std.specs.Prelude.{Bool, not, ◌&&◌}
use Rattle.std.specs.List.{list_all, list_any}
use Rattle.target_base.specs.declared.types.Target.{Target}
use Rattle.target_base.specs.Rules.{is_copy}
use Rattle.mir_func.specs.declared.func.RegOp.{RegOp}
use Rattle.mir_func.specs.declared.func.Instr.{Instr}
use Rattle.mir_func.specs.Binding.{TiedPair, does, is_lowered_away, registers, same_index, same_loc, tied_pairs}

-- an `undef` definition
abbrev pub is_undef_definition : RegOp → Bool
is_undef_definition o = o.def && o.undef

-- an `undef` use
abbrev pub is_undef_use : RegOp → Bool
is_undef_use o = not o.def && o.undef

-- the use has the register and the index of the definition to which it is tied
abbrev pub shares_register : TiedPair → Bool
shares_register p = same_loc p.definition.loc p.tied_use.loc && same_index p.definition.index p.tied_use.index

-- The instruction is no PHI, REG_SEQUENCE or INSERT_SUBREG. It has no `undef` definition, and is no COPY of an `undef`
-- source. Each tied use has its definition's register and index.
abbrev pub is_lowered : Target → Instr → Bool
is_lowered t i =
    not (does is_lowered_away t i)
    && not (list_any is_undef_definition (registers i.operands))
    && not (does is_copy t i && list_any is_undef_use (registers i.operands))
    && list_all shares_register (tied_pairs t i)
