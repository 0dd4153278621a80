-- The instructions that lowering makes.
use Rattle.std.specs.Prelude.{ℕ, Bool, true, false, cond, List, [], ◌∷◌, None}
use Rattle.target_base.specs.declared.types.OpId.{OpId}
use Rattle.mir_func.specs.declared.func.Loc.{Loc}
use Rattle.mir_func.specs.declared.func.Loc.TheVariants.{Virtual, Fixed}
use Rattle.mir_func.specs.declared.func.RegOp.{RegOp}
use Rattle.mir_func.specs.declared.func.Operand.TheVariants as operands
use Rattle.mir_func.specs.declared.func.Instr.{Instr}
use Rattle.mir_func.specs.Edits.{made}

-- COPY and IMPLICIT_DEF, the first and the third opcode of every target
abbrev pub copy_op : OpId
copy_op = record { 0 = 0 }

abbrev pub implicit_def_op : OpId
implicit_def_op = record { 0 = 2 }

-- a definition of a whole virtual register
abbrev pub whole_definition : ℕ → RegOp
whole_definition v = record { loc = Virtual v; index = None; def = true; implicit = false; undef = false; early = false; renamable = false; tie = None }

-- a use of one
abbrev pub whole_use : ℕ → RegOp
whole_use v = record { loc = Virtual v; index = None; def = false; implicit = false; undef = false; early = false; renamable = false; tie = None }

-- the operand's register and index as the source of a copy
abbrev pub source_of : RegOp → RegOp
source_of o = record { loc = o.loc; index = o.index; def = false; implicit = false; undef = o.undef; early = false; renamable = false; tie = None }

-- as its destination
abbrev pub destination_of : RegOp → RegOp
destination_of o = record { loc = o.loc; index = o.index; def = true; implicit = false; undef = false; early = false; renamable = false; tie = None }

-- a copy; its id is given later
abbrev pub copy_of : RegOp → RegOp → Instr
copy_of to from = made 0 copy_op (operands.Reg to ∷ operands.Reg from ∷ [])

-- an instruction that makes lanes undefined
abbrev pub undefining : RegOp → Instr
undefining to = made 0 implicit_def_op (operands.Reg to ∷ [])

-- what gives a register the value of an operand: a copy, but of an `undef` operand an IMPLICIT_DEF
abbrev pub move_of : RegOp → RegOp → Instr
move_of to from = cond from.undef (undefining to) (copy_of to (source_of from))
