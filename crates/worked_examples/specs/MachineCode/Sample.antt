-- Functions over the built-in target, written down shortly.
use Rattle.std.specs.Prelude.{ℕ, true, false, List, [], Some, None, codes, pos, map}
use Rattle.target_base.specs.Numbers.{reg_number, class_number, index_number, op_number}
use Rattle.mir_func.specs.declared.func.Loc.TheVariants.{Virtual, Fixed}
use Rattle.mir_func.specs.declared.func.RegOp.{RegOp}
use Rattle.mir_func.specs.declared.func.Operand.{Operand}
use Rattle.mir_func.specs.declared.func.Operand.TheVariants as operands
use Rattle.mir_func.specs.declared.func.Instr.{Instr}
use Rattle.mir_func.specs.declared.func.Op.TheVariants as ops
use Rattle.mir_func.specs.declared.func.Edge.{Edge}
use Rattle.mir_func.specs.declared.func.Block.{Block}
use Rattle.mir_func.specs.Value.{Function}

abbrev pub virtual : ℕ → RegOp
virtual v = record { loc = Virtual v; index = None; def = false; implicit = false; undef = false; early = false; renamable = false; tie = None }

abbrev pub physical : ℕ → RegOp
physical r = record (virtual 0) { loc = Fixed (reg_number r) }

abbrev pub as_def : RegOp → RegOp
as_def o = record o { def = true }

abbrev pub as_implicit : RegOp → RegOp
as_implicit o = record o { implicit = true }

abbrev pub as_undef : RegOp → RegOp
as_undef o = record o { undef = true }

abbrev pub part : RegOp → ℕ → RegOp
part o x = record o { index = Some (index_number x) }

-- operands: %v and $r, as definitions and as uses
abbrev pub op : RegOp → Operand
op o = operands.Reg o

abbrev pub def : ℕ → Operand
def v = op (as_def (virtual v))

abbrev pub val : ℕ → Operand
val v = op (virtual v)

abbrev pub fixed_def : ℕ → Operand
fixed_def r = op (as_def (physical r))

abbrev pub fixed : ℕ → Operand
fixed r = op (physical r)

abbrev pub implicit_def : ℕ → Operand
implicit_def r = op (as_implicit (as_def (physical r)))

abbrev pub implicit : ℕ → Operand
implicit r = op (as_implicit (physical r))

abbrev pub imm : ℕ → Operand
imm n = operands.Imm (pos n)

abbrev pub to_block : ℕ → Operand
to_block n = operands.Block n

abbrev pub subreg : ℕ → Operand
subreg x = operands.Index (index_number x)

abbrev pub symbol : Operand
symbol = operands.Symbol (codes "@g")

abbrev pub csr : Operand
csr = operands.Mask (record { 0 = 0 })

-- the frame object %fixed-stack.0
abbrev pub frame : Operand
frame = operands.FixedStack 0

abbrev pub instr : ℕ → ℕ → List Operand → Instr
instr id code os = record { id = id; op = ops.Known (op_number code); flags = []; operands = os; tail = [] }

abbrev pub edge : ℕ → Edge
edge n = record { block = n; prob = 1 }

-- a block with its number, successors, live-ins and instructions
abbrev pub block : ℕ → List ℕ → List ℕ → List Instr → Block
block n successors liveins instrs = record { number = n; name = []; attributes = []; successors = map edge successors; liveins = map reg_number liveins; instrs = instrs }

-- a function whose range numbers have these classes
abbrev pub function : List ℕ → List Block → Function
function classes blocks = record { name = codes "f"; head = []; classes = map (λ k. Some (class_number k)) classes; frames = []; blocks = blocks; next_id = 99 }

-- classes, registers, indexes and opcodes by their numbers
abbrev pub gr32 : ℕ
gr32 = 0

abbrev pub gr8 : ℕ
gr8 = 2

abbrev pub low : ℕ
low = 3

abbrev pub grp : ℕ
grp = 4

abbrev pub eax : ℕ
eax = 0

abbrev pub ecx : ℕ
ecx = 1

abbrev pub edx : ℕ
edx = 2

abbrev pub ax : ℕ
ax = 4

abbrev pub al : ℕ
al = 8

abbrev pub ah : ℕ
ah = 12

abbrev pub p0 : ℕ
p0 = 16

abbrev pub eflags : ℕ
eflags = 18

abbrev pub sp : ℕ
sp = 19

abbrev pub sub_8 : ℕ
sub_8 = 0

abbrev pub sub_lo32 : ℕ
sub_lo32 = 3

abbrev pub sub_hi32 : ℕ
sub_hi32 = 4

abbrev pub COPY : ℕ
COPY = 0

abbrev pub PHI : ℕ
PHI = 1

abbrev pub IMPLICIT_DEF : ℕ
IMPLICIT_DEF = 2

abbrev pub REG_SEQUENCE : ℕ
REG_SEQUENCE = 3

abbrev pub MOV32ri : ℕ
MOV32ri = 5

abbrev pub MOV8ri : ℕ
MOV8ri = 7

abbrev pub ADD32rr : ℕ
ADD32rr = 10

abbrev pub ADD32ri : ℕ
ADD32ri = 16

abbrev pub ADD8rr : ℕ
ADD8rr = 24

abbrev pub UDIV32rr : ℕ
UDIV32rr = 26

abbrev pub MADD32 : ℕ
MADD32 = 28

abbrev pub MLA32 : ℕ
MLA32 = 29

abbrev pub CMP32rr : ℕ
CMP32rr = 32

abbrev pub CMP32ri : ℕ
CMP32ri = 33

abbrev pub STORE32mr : ℕ
STORE32mr = 37

abbrev pub JMP : ℕ
JMP = 39

abbrev pub JCC : ℕ
JCC = 40

abbrev pub CALL : ℕ
CALL = 42

abbrev pub RET : ℕ
RET = 43
