-- Functions over the built-in target, written down shortly, for worked examples.
use Rattle.std.specs.Prelude.{◌≡◌, [], ◌∷◌, ◌++◌, ℕ, Bool, true, false, pos, ◌&&◌, nat_eq, List, map, flat_map, codes, Option, Some, None, refl}
use Rattle.std.specs.List.{list_any, position_or_len}
use Rattle.target_base.specs.declared.types.ClassId.{ClassId}
use Rattle.target_base.specs.declared.types.IndexId.{IndexId}
use Rattle.target_base.specs.Numbers.{reg_number, class_number, index_number, op_number}
use Rattle.target_base.specs.declared.types.Effect.TheVariants as effects
use Rattle.target_base.specs.declared.types.OpaqueKind.TheVariants as kinds
use Rattle.target_base.specs.declared.types.Role.TheVariants as roles
use Rattle.target_base.specs.declared.types.OpcodeDesc.{OpcodeDesc}
use Rattle.target_base.specs.declared.types.Target.{Target}
use Rattle.target_base.specs.Rules.{is_sound}
use Rattle.target_base.specs.Mini.{mini_target, mini_units, mini_regs, mini_reserved, mini_indexes, mini_classes, mini_masks, mini_opcodes, no_options, gr32, op}
use Rattle.mir_func.specs.declared.func.Loc.{Loc}
use Rattle.mir_func.specs.declared.func.Loc.TheVariants.{Virtual, Fixed}
use Rattle.mir_func.specs.declared.func.RegOp.{RegOp}
use Rattle.mir_func.specs.declared.func.Operand.{Operand}
use Rattle.mir_func.specs.declared.func.Operand.TheVariants as operands
use Rattle.mir_func.specs.declared.func.Instr.{Instr}
use Rattle.mir_func.specs.declared.func.Op.TheVariants as ops
use Rattle.mir_func.specs.declared.func.Edge.{Edge}
use Rattle.mir_func.specs.declared.func.Block.{Block}
use Rattle.mir_func.specs.Value.{Function}
use Rattle.spiller.specs.Reaching.{Facts}
use Rattle.spiller.specs.Slots.{Slots}
use Rattle.spiller.specs.Spilled.{spilled, tinies, slots_after, setting_of}

abbrev pub ro : Loc → Option IndexId → Bool → Bool → Bool → Bool → Bool → Option ℕ → RegOp
ro l x d i u e r t = record { loc = l; index = x; def = d; implicit = i; undef = u; early = e; renamable = r; tie = t }

abbrev pub use_at : Loc → Option IndexId → RegOp
use_at l x = ro l x false false false false false None

abbrev pub def_at : Loc → Option IndexId → RegOp
def_at l x = record (use_at l x) { def = true }

abbrev pub def : ℕ → Operand
def v = operands.Reg (def_at (Virtual v) None)

abbrev pub val : ℕ → Operand
val v = operands.Reg (use_at (Virtual v) None)

abbrev pub part_def : ℕ → ℕ → Operand
part_def v x = operands.Reg (def_at (Virtual v) (Some (index_number x)))

abbrev pub part_val : ℕ → ℕ → Operand
part_val v x = operands.Reg (use_at (Virtual v) (Some (index_number x)))

abbrev pub undef_val : ℕ → Operand
undef_val v = operands.Reg (record (use_at (Virtual v) None) { undef = true })

abbrev pub undef_fixed : ℕ → Operand
undef_fixed r = operands.Reg (record (use_at (Fixed (reg_number r)) None) { undef = true })

abbrev pub fixed_def : ℕ → Operand
fixed_def r = operands.Reg (def_at (Fixed (reg_number r)) None)

abbrev pub fixed : ℕ → Operand
fixed r = operands.Reg (use_at (Fixed (reg_number r)) None)

abbrev pub implicit_def : ℕ → Operand
implicit_def r = operands.Reg (record (def_at (Fixed (reg_number r)) None) { implicit = true })

abbrev pub implicit : ℕ → Operand
implicit r = operands.Reg (record (use_at (Fixed (reg_number r)) None) { implicit = true })

abbrev pub imm : ℕ → Operand
imm n = operands.Imm (pos n)

abbrev pub to_block : ℕ → Operand
to_block n = operands.Block n

abbrev pub subreg : ℕ → Operand
subreg x = operands.Index (index_number x)

abbrev pub slot : ℕ → Operand
slot n = operands.Stack n

abbrev pub symbol : Operand
symbol = operands.Symbol (64 ∷ 103 ∷ [])

abbrev pub csr : Operand
csr = operands.Mask (record { 0 = 0 })

abbrev pub instr : ℕ → ℕ → List Operand → Instr
instr id code os = record { id = id; op = ops.Known (op_number code); flags = []; operands = os; tail = [] }

abbrev pub with_text : List ℕ → List ℕ → Instr → Instr
with_text flags tail i = record i { flags = flags; tail = tail }

abbrev pub edge : ℕ → Edge
edge n = record { block = n; prob = 1 }

abbrev pub block : ℕ → List ℕ → List ℕ → List Instr → Block
block n successors liveins instrs = record { number = n; name = []; attributes = []; successors = map edge successors; liveins = map reg_number liveins; instrs = instrs }

abbrev pub some_class : ℕ → Option ClassId
some_class k = Some (class_number k)

abbrev pub function : ℕ → List ℕ → List Block → Function
function n classes blocks = record { name = []; head = []; classes = map some_class classes; frames = []; blocks = blocks; next_id = n }

abbrev pub slots_of : List ℕ → List (ℕ × ℕ) → List ℕ → Slots
slots_of originals given taken = record { originals = originals; given = given; taken = taken }

-- facts by lists of those that hold
abbrev pub facts : List (ℕ × ℕ) → List (ℕ × ℕ × ℕ) → Facts
facts lives reaches = record {
  live_behind = λ i k. list_any (λ p. nat_eq p.0 i && nat_eq p.1 k) lives;
  reaches = λ d k i. list_any (λ p. nat_eq p.0 d && (nat_eq p.1 k && nat_eq p.2 i)) reaches;
}

abbrev pub without_id : Instr → Instr
without_id i = record i { id = 0 }

abbrev pub without_ids : Block → Block
without_ids b = record b { instrs = map without_id b.instrs }

-- after a spill: the blocks without ids, the classes, each tiny with the place in layout of the instruction that names its place, and the slots
abbrev pub seen_over : Target → Function → Slots → ℕ → Facts → List Block × List (Option ClassId) × List (ℕ × ℕ) × Slots
seen_over t f slots v facts =
    let s = setting_of t f slots v facts in
    let g = spilled s in
    (map without_ids g.blocks, g.classes, map (λ p. (p.0, position_or_len (λ i. nat_eq i.id p.1) (flat_map (λ b. b.instrs) g.blocks))) (tinies s), slots_after slots s)

-- the same over the built-in target
abbrev pub seen : Function → Slots → ℕ → Facts → List Block × List (Option ClassId) × List (ℕ × ℕ) × Slots
seen = seen_over mini_target

-- the opcodes of the built-in target, and two opaque ones with two definitions, of which one has a use tied to its first
abbrev pub paired_opcodes : List OpcodeDesc
paired_opcodes =
    mini_opcodes
    ++ (op (codes "LDP") (effects.Opaque kinds.Plain) (roles.Def gr32 ∷ roles.Def gr32 ∷ roles.Address gr32 ∷ roles.Imm ∷ [])
    ∷ op (codes "LDPOST") (effects.Opaque kinds.Plain) (roles.Early gr32 ∷ roles.Def gr32 ∷ roles.Tied gr32 0 ∷ roles.Read gr32 ∷ [])
    ∷ [])

pub paired_is_sound : is_sound (codes "paired") 1 mini_units mini_regs mini_reserved mini_indexes mini_classes mini_masks paired_opcodes ≡ true
unfolding is_sound
paired_is_sound = refl

-- a target that has them
abbrev pub paired_target : Target
paired_target = record {
  name = codes "paired";
  version = 1;
  units = mini_units;
  regs = mini_regs;
  reserved = mini_reserved;
  indexes = mini_indexes;
  classes = mini_classes;
  masks = mini_masks;
  opcodes = paired_opcodes;
  options = no_options;
  sound = paired_is_sound;
}

abbrev pub COPY : ℕ
COPY = 0

abbrev pub IMPLICIT_DEF : ℕ
IMPLICIT_DEF = 2

abbrev pub MOV32ri : ℕ
MOV32ri = 5

abbrev pub ADD8rr : ℕ
ADD8rr = 24

abbrev pub CMP32rr : ℕ
CMP32rr = 32

abbrev pub STORE32mr : ℕ
STORE32mr = 37

abbrev pub STORE8mr : ℕ
STORE8mr = 38

abbrev pub JCC : ℕ
JCC = 40

abbrev pub JNZ32 : ℕ
JNZ32 = 41

abbrev pub CALL : ℕ
CALL = 42

abbrev pub RET : ℕ
RET = 43

abbrev pub NOP : ℕ
NOP = 44

abbrev pub SPILL32 : ℕ
SPILL32 = 45

abbrev pub SPILL8 : ℕ
SPILL8 = 47

abbrev pub RELOAD32 : ℕ
RELOAD32 = 49

abbrev pub SPILL64 : ℕ
SPILL64 = 48

abbrev pub RELOAD8 : ℕ
RELOAD8 = 51

abbrev pub RELOAD64 : ℕ
RELOAD64 = 52

abbrev pub LDP : ℕ
LDP = 53

abbrev pub LDPOST : ℕ
LDPOST = 54
