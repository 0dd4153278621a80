-- Worked rows: edits of one small function over the built-in target, and which lanes lead to what they name.
use Rattle.std.specs.Prelude.{◌≡◌, ℕ, pos, true, false, List, [], ◌∷◌, ◌++◌, Some, None, codes}
use Rattle.target_base.specs.Mini.{mini_target}
use Rattle.target_base.specs.Numbers.{class_number, op_number, reg_number}
use Rattle.meaning.specs.declared.types.Lane.TheVariants.{VirtualLane, UnitLane}
use Rattle.mir_func.specs.declared.func.Instr.{Instr}
use Rattle.mir_func.specs.declared.func.Loc.TheVariants.{Virtual, Fixed}
use Rattle.mir_func.specs.declared.func.Op.TheVariants as ops
use Rattle.mir_func.specs.declared.func.Operand.{Operand}
use Rattle.mir_func.specs.declared.func.Operand.TheVariants as operands
use Rattle.mir_func.specs.declared.func.RegOp.{RegOp}
use Rattle.mir_func.specs.Value.{Function}
use Rattle.edit_laws.specs.Edits.{Edit, Put, Replace, Erase, edited}
use Rattle.edit_laws.specs.Laws.{LeadsToEdit}

-- register operands: %v and $eax, as definitions and as uses
abbrev pub virtual : ℕ → RegOp
virtual v = record { loc = Virtual v; index = None; def = false; implicit = false; undef = false; early = false; renamable = false; tie = None }

abbrev pub def : ℕ → Operand
def v = operands.Reg (record (virtual v) { def = true })

abbrev pub val : ℕ → Operand
val v = operands.Reg (virtual v)

abbrev pub eax : RegOp
eax = record (virtual 0) { loc = Fixed (reg_number 0) }

-- opcodes by their numbers
abbrev pub COPY : ℕ
COPY = 0

abbrev pub MOV32ri : ℕ
MOV32ri = 5

abbrev pub STORE32mr : ℕ
STORE32mr = 37

abbrev pub RET : ℕ
RET = 43

abbrev pub instr : ℕ → ℕ → List Operand → Instr
instr id code os = record { id = id; op = ops.Known (op_number code); flags = []; operands = os; tail = [] }

abbrev pub store : ℕ → List Operand
store v = operands.FixedStack 0 ∷ operands.Imm (pos 0) ∷ val v ∷ []

-- one block of these instructions
abbrev pub function : ℕ → List Instr → Function
function next is = record {
  name = codes "f";
  head = [];
  classes = Some (class_number 0) ∷ Some (class_number 0) ∷ Some (class_number 0) ∷ Some (class_number 0) ∷ [];
  frames = [];
  blocks = record { number = 0; name = []; attributes = []; successors = []; liveins = reg_number 0 ∷ []; instrs = is } ∷ [];
  next_id = next;
}

abbrev pub head : List Instr
head = instr 0 COPY (def 0 ∷ operands.Reg eax ∷ []) ∷ instr 1 COPY (def 1 ∷ val 0 ∷ []) ∷ instr 2 MOV32ri (def 2 ∷ operands.Imm (pos 7) ∷ []) ∷ []

abbrev pub tail : ℕ → List Instr
tail v = instr 4 COPY (operands.Reg (record eax { def = true }) ∷ val v ∷ []) ∷ instr 5 RET (operands.Reg (record eax { implicit = true }) ∷ []) ∷ []

-- $eax comes back through %0 and %1, and %2 is stored
abbrev pub sample : Function
sample = function 6 (head ++ (instr 3 STORE32mr (store 2) ∷ tail 1))

abbrev pub put_copy : Edit
put_copy = Put (record { block = 0; before = Some 3 }) (op_number COPY) (def 3 ∷ val 2 ∷ [])

abbrev pub store_other : Edit
store_other = Replace 3 (op_number STORE32mr) (store 3)

abbrev pub answer : ℕ → List Operand
answer v = operands.Reg (record eax { def = true }) ∷ val v ∷ []

abbrev pub answer_other : Edit
answer_other = Replace 4 (op_number COPY) (answer 2)

-- at the address in %2 a register is stored, and then another
abbrev pub store_at : ℕ → List Operand
store_at v = val 2 ∷ operands.Imm (pos 0) ∷ val v ∷ []

abbrev pub based : Function
based = function 6 (head ++ (instr 3 STORE32mr (store_at 0) ∷ tail 1))

abbrev pub value_other : Edit
value_other = Replace 3 (op_number STORE32mr) (store_at 3)

-- what the edits make of the function
abbrev pub EditsMake : Type 0
EditsMake =
    (edited sample put_copy ≡ function 7 (head ++ (instr 6 COPY (def 3 ∷ val 2 ∷ []) ∷ instr 3 STORE32mr (store 2) ∷ tail 1)))
    × (edited sample store_other ≡ function 6 (head ++ (instr 3 STORE32mr (store 3) ∷ tail 1)))
    × (edited sample (Erase 3) ≡ function 6 (head ++ tail 1))

-- the stored lane leads to the store that goes; the lanes that are copied don't
abbrev pub StoreGoes : Type 0
StoreGoes =
    LeadsToEdit mini_target sample (Erase 3) (VirtualLane 2 0)
    × (LeadsToEdit mini_target sample (Erase 3) (VirtualLane 0 0) → ⊥)
    × (LeadsToEdit mini_target sample (Erase 3) (VirtualLane 1 0) → ⊥)
    × (LeadsToEdit mini_target sample (Erase 3) (UnitLane 0) → ⊥)

-- where another register is answered, all lead there that are copied into the old one, but not a lane of %3
abbrev pub AnswerChanges : Type 0
AnswerChanges =
    LeadsToEdit mini_target sample answer_other (VirtualLane 1 0)
    × LeadsToEdit mini_target sample answer_other (VirtualLane 0 0)
    × LeadsToEdit mini_target sample answer_other (VirtualLane 2 0)
    × (LeadsToEdit mini_target sample answer_other (VirtualLane 3 0) → ⊥)

-- where another register is stored, both lead there, but not the address, which is read as it was
abbrev pub ValueChanges : Type 0
ValueChanges =
    LeadsToEdit mini_target based value_other (VirtualLane 0 0)
    × LeadsToEdit mini_target based value_other (VirtualLane 3 0)
    × (LeadsToEdit mini_target based value_other (VirtualLane 2 0) → ⊥)
