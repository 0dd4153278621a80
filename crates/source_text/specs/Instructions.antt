-- Which instructions of an allocated function keep the flags and the tail of one of the source.
use Rattle.std.specs.Prelude.{Bool, true, false, cond, not, ◌&&◌, ◌||◌, nat_lt, List, [], ◌∷◌, length, Option, Some, None}
use Rattle.std.specs.List.{list_any}
use Rattle.target_base.specs.declared.types.Effect.{Effect}
use Rattle.target_base.specs.declared.types.Effect.TheVariants as effects
use Rattle.target_base.specs.declared.types.Target.{Target}
use Rattle.target_base.specs.Storage.{same_numbers}
use Rattle.mir_func.specs.declared.func.Instr.{Instr}
use Rattle.mir_func.specs.Binding.{does, passes}
use Rattle.mir_meaning.specs.Agreement.{same_op, is_counted}

-- the flags are the same, and so is the tail
abbrev pub same_words : Instr → Instr → Bool
same_words i x = same_numbers i.flags x.flags && same_numbers i.tail x.tail

-- it has flags or a tail
abbrev pub has_words : Instr → Bool
has_words i = nat_lt 0 (length i.flags) || nat_lt 0 (length i.tail)

-- What only moves values, or makes lanes undefined. Lowering makes COPY and IMPLICIT_DEF of PHI, REG_SEQUENCE and
-- INSERT_SUBREG in their place; spilling makes a store or a reload of COPY and IMPLICIT_DEF.
abbrev pub is_move : Effect → Bool
is_move effects.Copy = true
is_move effects.Phi = true
is_move effects.ImplicitDef = true
is_move effects.RegSequence = true
is_move effects.InsertSubreg = true
is_move effects.Spill = true
is_move effects.Reload = true
is_move _ = false

-- what an instruction may be in its place behind allocation: one of the same opcode, or a move for a move
abbrev pub may_become : Target → Instr → Instr → Bool
may_become t i x = same_op i.op x.op || (does is_move t i && does is_move t x)

-- instruction x of the allocated function stands for instruction i of the source
abbrev pub stands_for : Target → Instr → Instr → Bool
stands_for t i x = may_become t i x && same_words i x

-- an instruction that stands for one of the source: each counted one, and each silent one with flags or a tail
abbrev pub must_stand : Target → Instr → Bool
must_stand t x = is_counted t x || has_words x

-- What stands behind the first of these instructions for which x stands. Silent ones before it are passed over; a counted
-- one isn't.
abbrev pub behind : Target → List Instr → Instr → Option (List Instr)
behind t [] x = None
behind t (i ∷ is) x = cond (stands_for t i x) (Some is) (cond (is_counted t i) None (behind t is x))

-- Of a block's instructions in the allocated function, those that must stand for one of the source's stand, in order, for
-- some of these; and each of the source's that counts has one that stands for it.
abbrev pub keep_instrs : Target → List Instr → List Instr → Bool
keep_instrs t is [] = not (list_any (is_counted t) is)
keep_instrs t is (x ∷ xs) = cond (must_stand t x) (passes (λ rest. keep_instrs t rest xs) (behind t is x)) (keep_instrs t is xs)
