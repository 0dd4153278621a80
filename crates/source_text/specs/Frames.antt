-- The frame objects of an allocated function: those of the source, and new spill slots.
use Rattle.std.specs.Prelude.{ℕ, Bool, true, cond, not, ◌&&◌, nat_eq, List, [], ◌∷◌, Option, Some, None}
use Rattle.std.specs.Bool.{beq}
use Rattle.std.specs.List.{list_all, list_any}
use Rattle.target_base.specs.Names.{is_distinct}
use Rattle.mir_func.specs.declared.func.Operand.{Operand}
use Rattle.mir_func.specs.declared.func.Operand.TheVariants as operands
use Rattle.mir_func.specs.declared.func.Instr.{Instr}
use Rattle.mir_func.specs.declared.func.Block.{Block}
use Rattle.mir_func.specs.Value.{Function}

-- a frame object: its number, and whether it is a spill slot
abbrev pub Object : Type 0
Object = ℕ × Bool

abbrev pub same_object : Object → Object → Bool
same_object o p = nat_eq o.0 p.0 && beq o.1 p.1

-- the objects behind the source's, where these stand first
abbrev pub new_objects : List Object → List Object → Option (List Object)
new_objects [] ps = Some ps
new_objects (o ∷ os) [] = None
new_objects (o ∷ os) (p ∷ ps) = cond (same_object o p) (new_objects os ps) None

-- one of the objects has this number
abbrev pub has_object : List Object → ℕ → Bool
has_object os n = list_any (λ o. nat_eq o.0 n) os

-- the operand names none of the objects
abbrev pub names_none : List Object → Operand → Bool
names_none os (operands.Stack n) = not (has_object os n)
names_none os _ = true

-- no operand of the instruction names one of them, and so of a block
abbrev pub instr_names_none : List Object → Instr → Bool
instr_names_none os i = list_all (names_none os) i.operands

abbrev pub block_names_none : List Object → Block → Bool
block_names_none os b = list_all (instr_names_none os) b.instrs

-- The objects may be new slots for f: they are spill slots, no two of one number, and f neither declares nor names a number
-- of theirs.
abbrev pub are_new : Function → List Object → Bool
are_new f os =
    list_all (λ o. o.1) os
    && is_distinct (λ o p. nat_eq o.0 p.0) os
    && list_all (λ o. not (has_object os o.0)) f.frames
    && list_all (block_names_none os) f.blocks
