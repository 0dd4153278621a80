-- A range that is spilled, and the stores and reloads that are made for it.
use Rattle.std.specs.Prelude.{ℕ, Bool, true, false, pos, List, [], ◌∷◌, length, Option, Some, None, option_and_then}
use Rattle.std.specs.List.{list_any}
use Rattle.target_base.specs.declared.types.Reg.{Reg}
use Rattle.target_base.specs.declared.types.ClassId.{ClassId}
use Rattle.target_base.specs.declared.types.IndexId.{IndexId}
use Rattle.target_base.specs.declared.types.OpId.{OpId}
use Rattle.target_base.specs.declared.types.Target.{Target}
use Rattle.target_base.specs.Numbers.{reg_number, op_number}
use Rattle.target_base.specs.Registers.{lanes_of, part_of, move_class, home_of, spill_place, reload_place}
use Rattle.mir_func.specs.declared.func.Loc.{Loc}
use Rattle.mir_func.specs.declared.func.Loc.TheVariants.{Virtual, Fixed}
use Rattle.mir_func.specs.declared.func.RegOp.{RegOp}
use Rattle.mir_func.specs.declared.func.Operand.{Operand}
use Rattle.mir_func.specs.declared.func.Operand.TheVariants as operands
use Rattle.mir_func.specs.declared.func.Instr.{Instr}
use Rattle.mir_func.specs.Value.{Function}
use Rattle.mir_func.specs.Edits.{made}
use Rattle.mir_func.specs.Binding.{class_of}
use Rattle.mir_meaning.specs.Registers.{numbers, range_widths}
use Rattle.mir_meaning.specs.Points.{is_range}
use Rattle.mir_meaning.specs.Places.{domain}
use Rattle.spiller.specs.Reaching.{Facts}

-- The function, the range that is spilled, its slot, and what is asked of paths. All of it is as it stands before
-- the spill, for all places at once.
pub record Spilling : Type 0 where
  pub target : Target
  pub func : Function
  pub range : ℕ
  pub slot : ℕ
  pub facts : Facts

-- the operand is the range
abbrev pub is_own : Spilling → RegOp → Bool
is_own s o = is_range s.range o.loc

-- the range's class
abbrev pub own_class : Spilling → Option ClassId
own_class s = class_of s.func s.range

-- the class of the part that an index picks, of a register of a class
abbrev pub part_class : Target → Option IndexId → Option ClassId → Option ClassId
part_class t x k = option_and_then (λ c. part_of t c x) k

-- the first class with the lane widths of what an index picks of the range
abbrev pub moving_class : Spilling → Option IndexId → Option ClassId
moving_class s x = option_and_then (λ c. move_class s.target c x) (own_class s)

-- the lanes of the range that an index picks, by their numbers
abbrev pub own_lanes : Spilling → Option IndexId → List ℕ
own_lanes s None = numbers 0 (length (range_widths s.target s.func s.range))
own_lanes s (Some x) = lanes_of s.target x

-- one of these lanes is live behind the instruction
abbrev pub is_live_behind : Spilling → Instr → Option IndexId → Bool
is_live_behind s i x = list_any (s.facts.live_behind i.id) (own_lanes s x)

-- a use without flags
abbrev pub plain_use : Loc → Option IndexId → RegOp
plain_use l x = record { loc = l; index = x; def = false; implicit = false; undef = false; early = false; renamable = false; tie = None }

-- a definition without flags
abbrev pub plain_definition : Loc → Option IndexId → RegOp
plain_definition l x = record (plain_use l x) { def = true }

-- the first of these registers
abbrev pub first_of : List Reg → Reg
first_of [] = reg_number 0
first_of (r ∷ rs) = r

-- an `undef` use of the first unreserved register of a class
abbrev pub undef_use : Target → Option ClassId → RegOp
undef_use t k = record (plain_use (Fixed (first_of (domain t k))) None) { undef = true }

-- how a store or a reload names lanes of its slot: an index, or 0 for all
abbrev pub lanes_named : Option IndexId → Operand
lanes_named None = operands.Imm (pos 0)
lanes_named (Some x) = operands.Index x

-- lanes of the range's slot, as a store or a reload names them
abbrev pub in_own_slot : Spilling → Option IndexId → List Operand
in_own_slot s x = operands.Stack s.slot ∷ lanes_named x ∷ []

-- an opcode by its number, where there is one: each class of a target has its stores and reloads
abbrev pub opcode : Option ℕ → OpId
opcode None = op_number 0
opcode (Some k) = op_number k

-- a store of a register of a class; its id is given later
abbrev pub store : Target → Option ClassId → RegOp → List Operand → Instr
store t k o slot = made 0 (opcode (option_and_then (spill_place t) k)) (operands.Reg o ∷ slot)

-- a reload of one
abbrev pub reload : Target → Option ClassId → RegOp → List Operand → Instr
reload t k o slot = made 0 (opcode (option_and_then (reload_place t) k)) (operands.Reg o ∷ slot)

-- the class whose opcode moves the other register of a copy: that of its part, or the first that holds a fixed one
abbrev pub class_beside : Spilling → RegOp → Loc → Option ClassId
class_beside s o (Virtual w) = part_class s.target o.index (class_of s.func w)
class_beside s o (Fixed r) = home_of s.target r
