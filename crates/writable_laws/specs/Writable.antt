-- A writable function: what it keeps of its text, and its numbers and lists, are such as the format reads in their places, so
-- that its printed document is read back as the function. A reader gives ids anew, and drops ties and `renamable`, so
-- nothing is asked of these.
use Rattle.std.specs.Prelude.{◌≡◌, ◌≤◌, ◌<◌, ◌++◌, ℕ, suc, ℤ, pos, negsuc, Bool, true, false, not, ◌==◌, if◌then◌else◌, List, [], ◌∷◌, length, drop, codes, Option, Some, None, Result, Ok, Err, slice_get}
use Rattle.std.specs.List.{list_all, list_any}
use Rattle.target_base.specs.Names.{is_op_name}
use Rattle.target_base.specs.Registers.{HasIndex, IsClass, IsIndex, IsOpcode, IsReg}
use Rattle.target_base.specs.declared.types.ClassId.{ClassId}
use Rattle.target_base.specs.declared.types.IndexId.{IndexId}
use Rattle.target_base.specs.declared.types.OpId.{OpId}
use Rattle.target_base.specs.declared.types.Reg.{Reg}
use Rattle.target_base.specs.declared.types.Target.{Target}
use Rattle.meaning.specs.Live.{Among as Member}
use Rattle.mir_func.specs.declared.func.Loc.{Loc}
use Rattle.mir_func.specs.declared.func.Loc.TheVariants as locs
use Rattle.mir_func.specs.declared.func.Op.{Op}
use Rattle.mir_func.specs.declared.func.Op.TheVariants as ops
use Rattle.mir_func.specs.declared.func.Operand.{Operand}
use Rattle.mir_func.specs.declared.func.Operand.TheVariants as operands
use Rattle.mir_func.specs.declared.func.Edge.{Edge}
use Rattle.mir_func.specs.declared.func.Instr.{Instr}
use Rattle.mir_func.specs.declared.func.Block.{Block}
use Rattle.mir_func.specs.Value.{Function}
use Rattle.mir_func.specs.Binding.{class_of}
use Rattle.mir_func.specs.Spelling.{op_name}
use Rattle.mir_meaning.specs.Codes.{first_number, is_open}
use Rattle.mir_meaning.specs.Rules.{V9}
use Rattle.mir_lines.specs.Bytes.{is_ascii, is_label_byte}
use Rattle.mir_lines.specs.Instructions.{is_excluded, tail_at, without_comment}
use Rattle.mir_lines.specs.Operands.{operand_at}
use Rattle.mir_lines.specs.Parts.{joined}
use Rattle.mir_lines.specs.Registers.{words_at}
use Rattle.mir_lines.specs.Symbols.{behind_noreg}
use Rattle.mir_lines.specs.declared.raw.RawOperand.TheVariants as raw
use Rattle.mir_read.specs.Body.{due_blocks}
use Rattle.mir_read.specs.Keys.{is_key, key_line, no_keys}
use Rattle.mir_read.specs.Names.{NameLists, has_flag, name_lists}
use Rattle.mir_read.specs.declared.keys.Key.TheVariants as key
use Rattle.mir_read.specs.declared.keys.Keys.{Keys}
use Rattle.mir_read.specs.declared.stop.TextKind.{TextKind}
use Rattle.mir_text.specs.Document.{lines}
use Rattle.mir_text.specs.Print.{is_explicit_def, reg_name}

-- Names of the target.

-- A name stands for one thing alone: no opcode has the name of a generic one whose operands aren't read, and no register is
-- spelled as `$noreg`, where that stands for no register.
pub record ReadsNames (t : Target) : Type 0 where
  pub opcodes : (o : OpId) → IsOpcode t o → is_excluded t (op_name t (ops.Known o)) ≡ false
  pub registers : (r : Reg) → IsReg t r → behind_noreg t.options (codes "$" ++ reg_name t r) ≡ None

-- Key lines.

abbrev pub is_of_registers : Keys → Bool
is_of_registers k = if is_key k.key key.Registers then true else is_key k.key key.Liveins

-- the keys behind a line that stands, and isn't one of `registers` or `liveins`, which name virtual registers
abbrev pub kept_keys : Result Keys TextKind → Option Keys
kept_keys (Err kind) = None
kept_keys (Ok k) = if is_of_registers k then None else Some k

abbrev pub or_no_keys : (Keys → Option Keys) → Option Keys → Option Keys
or_no_keys more None = None
or_no_keys more (Some k) = more k

-- the keys behind these lines, each of which stands behind those before it; no line stands behind that of the body
abbrev pub keys_behind : NameLists → Keys → List (List ℕ) → Option Keys
keys_behind names k [] = Some k
keys_behind names k (line ∷ more) =
    if is_key k.key key.Body then None
    else or_no_keys (λ next. keys_behind names next more) (kept_keys (key_line names k line))

-- The head is a list of key lines, the last of which begins the body. They give the name and the frame objects.
pub record HasHead (t : Target) (f : Function) : Type 0 where
  pub keys : Keys
  pub stand : keys_behind (name_lists t) no_keys (lines f.head) ≡ Some keys
  pub body : is_key keys.key key.Body ≡ true
  pub name : keys.name ≡ Some f.name
  pub frames : keys.frames ≡ f.frames
  -- the last line too ends with a newline
  pub whole : keys.head ≡ f.head

-- What is kept as text.

-- no newline cuts the text
abbrev pub is_one_line : List ℕ → Bool
is_one_line text = list_all (λ b. not (b == 10)) text

-- words of lower-case letters and dashes with one space between; none begins a tail
pub record AreFlags (flags : List ℕ) : Type 0 where
  pub words : List (List ℕ)
  pub read : words_at flags ≡ Some (words, [])
  pub spelled : joined (codes " ") words ≡ flags

-- nothing, or what the format takes for a tail as it stands; a comment isn't part of it
pub record IsTail (tail : List ℕ) : Type 0 where
  pub read : tail_at tail ≡ Some tail
  pub bare : without_comment tail ≡ tail
  pub line : is_one_line tail ≡ true

-- the text in parentheses behind a block's name, or nothing; a comment isn't part of it
pub record AreAttributes (text : List ℕ) : Type 0 where
  pub ascii : is_ascii text ≡ true
  pub bare : without_comment text ≡ text
  pub line : is_one_line text ≡ true

-- the one spelling of a symbol, with flags that the target has
pub record IsSymbol (t : Target) (text : List ℕ) : Type 0 where
  pub flags : List (List ℕ)
  pub read : operand_at t.options text ≡ Some (raw.Symbol text flags, [])
  pub known : list_all (has_flag (name_lists t)) flags ≡ true
  pub line : is_one_line text ≡ true

-- Operands.

-- the numbers of registers, blocks and frame objects
abbrev pub most_number : ℕ
most_number = 2147483647

-- an immediate lies from -2^63 to 2^64 - 1
abbrev pub IsImmediate : ℤ → Type 0
IsImmediate (pos n) = n ≤ 18446744073709551615
IsImmediate (negsuc n) = suc n ≤ 9223372036854775808

-- A virtual register is one of the function's, and its index the target's. A fixed one is the target's, and none is printed
-- of its index.
abbrev pub CanSpellRegister : Target → Function → Loc → Option IndexId → Type 0
CanSpellRegister t f (locs.Virtual v) index = (v < length f.classes) × HasIndex t index
CanSpellRegister t f (locs.Fixed r) index = IsReg t r × (index ≡ None)

abbrev pub CanSpellOperand : Target → Function → Operand → Type 0
CanSpellOperand t f (operands.Reg o) = CanSpellRegister t f o.loc o.index
CanSpellOperand t f (operands.Imm z) = IsImmediate z
CanSpellOperand t f (operands.Block n) = n ≤ most_number
CanSpellOperand t f (operands.Stack n) = n ≤ most_number
CanSpellOperand t f (operands.FixedStack n) = n ≤ most_number
CanSpellOperand t f (operands.Symbol text) = IsSymbol t text
CanSpellOperand t f (operands.Index x) = IsIndex t x
CanSpellOperand t f (operands.Mask m) = m.0 < length t.masks

-- Instructions.

-- explicit definitions stand before the equals sign, and so before all other operands
abbrev pub definitions_first : List Operand → Bool
definitions_first [] = true
definitions_first (o ∷ os) = if is_explicit_def o then definitions_first os else not (list_any is_explicit_def os)

-- the name of a generic opcode without a meaning, behind which no operand and no tail is read
pub record IsExcluded (t : Target) (name : List ℕ) (os : List Operand) (tail : List ℕ) : Type 0 where
  pub opcode : is_op_name name ≡ true
  pub excluded : is_excluded t name ≡ true
  pub definitions : list_all is_explicit_def os ≡ true
  pub none : tail ≡ []

-- an opcode of the target, or one without a meaning
abbrev pub CanSpellOpcode : Target → Op → List Operand → List ℕ → Type 0
CanSpellOpcode t (ops.Known o) os tail = IsOpcode t o
CanSpellOpcode t (ops.Excluded name) os tail = IsExcluded t name os tail

-- the instruction can be spelled on a line
pub record CanSpell (t : Target) (f : Function) (i : Instr) : Type 0 where
  pub opcode : CanSpellOpcode t i.op i.operands i.tail
  pub flags : AreFlags i.flags
  pub order : definitions_first i.operands ≡ true
  pub operands : (o : Operand) → Member o i.operands → CanSpellOperand t f o
  pub tail : IsTail i.tail

-- Blocks.

-- a successor and its probability, in units of 2^-31
pub record CanSpellEdge (e : Edge) : Type 0 where
  pub block : e.block ≤ most_number
  pub prob : e.prob ≤ 2147483648

-- the lines of a block before its instructions
pub record CanSpellHeader (t : Target) (b : Block) : Type 0 where
  pub number : b.number ≤ most_number
  pub name : list_all is_label_byte b.name ≡ true
  pub attributes : AreAttributes b.attributes
  pub successors : (e : Edge) → Member e b.successors → CanSpellEdge e
  pub liveins : (r : Reg) → Member r b.liveins → IsReg t r

-- Successors of block k meet rule 9. Where no line spells them, the reader finds none, even where rule 9 isn't asked, of
-- branches that break rule 1.
pub record HasSuccessors (t : Target) (f : Function) (k : ℕ) (b : Block) : Type 0 where
  pub nine : V9 t f k b ≡ true
  pub unwritten : length b.successors ≡ 0 → is_open t b ≡ false → due_blocks t b.instrs (first_number (drop (suc k) f.blocks)) ≡ []

-- Functions.

pub record IsWritable (t : Target) (f : Function) : Type 0 where
  pub names : ReadsNames t
  pub head : HasHead t f
  -- ranges have numbers, and their classes names
  pub ranges : length f.classes ≤ 2147483648
  pub classes : (v : ℕ) (c : ClassId) → class_of f v ≡ Some c → IsClass t c
  -- a body has a block
  pub begun : 0 < length f.blocks
  pub headers : (b : Block) → Member b f.blocks → CanSpellHeader t b
  pub instrs : (b : Block) (i : Instr) → Member b f.blocks → Member i b.instrs → CanSpell t f i
  pub successors : (k : ℕ) (b : Block) → slice_get f.blocks k ≡ Some b → HasSuccessors t f k b
