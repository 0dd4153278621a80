-- Edits of a function, as values.
use Rattle.std.specs.Prelude.{◌≡◌, ℕ, Bool, false, nat_eq, List, [], ◌∷◌, map}
use Rattle.target_base.specs.declared.types.OpId.{OpId}
use Rattle.target_base.specs.declared.types.Target.{Target}
use Rattle.target_base.specs.Rules.{is_phi}
use Rattle.meaning.specs.declared.types.Lane.{Lane}
use Rattle.meaning.specs.Live.{Among}
use Rattle.mir_func.specs.declared.func.Block.{Block}
use Rattle.mir_func.specs.declared.func.Gap.{Gap}
use Rattle.mir_func.specs.declared.func.Instr.{Instr}
use Rattle.mir_func.specs.declared.func.Op.TheVariants as ops
use Rattle.mir_func.specs.declared.func.Operand.{Operand}
use Rattle.mir_func.specs.Value.{Function}
use Rattle.mir_func.specs.Edits.{made, changed_in, inserted, deleted}
use Rattle.mir_func.specs.Binding.{does, is_terminator}
use Rattle.mir_meaning.specs.Points.{Point, Start, Entry, Exit, point_item}
use Rattle.edit_laws.specs.Named.{Names}

-- A new instruction is put into a gap; the instruction of an id gets another opcode and other operands; it goes.
pub data Edit : Type 0 where
  Put : (gap : Gap) (op : OpId) (operands : List Operand) → Edit
  Replace : (id : ℕ) (op : OpId) (operands : List Operand) → Edit
  Erase : (id : ℕ) → Edit

-- the instruction with another opcode and other operands; id, flags and tail stay
abbrev pub with_op : OpId → List Operand → Instr → Instr
with_op op os i = record i { op = ops.Known op; operands = os }

-- the function in which the instruction of that id has them
abbrev pub replaced : Function → ℕ → OpId → List Operand → Function
replaced f id op os = record f { blocks = map (changed_in id (with_op op os)) f.blocks }

-- the function after the edit
abbrev pub edited : Function → Edit → Function
edited f (Put gap op os) = inserted f gap op os
edited f (Replace id op os) = replaced f id op os
edited f (Erase id) = deleted f id

-- the id of the edited instruction
abbrev pub edited_id : Function → Edit → ℕ
edited_id f (Put gap op os) = f.next_id
edited_id f (Replace id op os) = id
edited_id f (Erase id) = id

-- an instruction of that id in a block of the function
pub record Stands (f : Function) (id : ℕ) (b : Block) (i : Instr) : Type 0 where
  pub block : Among b f.blocks
  pub instr : Among i b.instrs
  pub named : i.id ≡ id

-- the edited instruction names the lane, as it was or as it is then
pub data Touches (t : Target) (f : Function) (e : Edit) (l : Lane) : Type 0 where
  before : (b : Block) (i : Instr) → Stands f (edited_id f e) b i → Names (point_item t f b i) l → Touches t f e l
  after : (b : Block) (i : Instr) → Stands (edited f e) (edited_id f e) b i → Names (point_item t (edited f e) b i) l → Touches t f e l

-- neither a phi nor a terminator
abbrev pub IsPlain : Target → Instr → Type 0
IsPlain t i = (does is_phi t i ≡ false) × (does is_terminator t i ≡ false)

-- no phi becomes another instruction or comes of one, and a terminator stays one
abbrev pub StaysPlain : Target → Instr → Instr → Type 0
StaysPlain t i j = (does is_phi t i ≡ false) × (does is_phi t j ≡ false) × (does is_terminator t i ≡ does is_terminator t j)

-- the edit leaves phis and the ways between blocks as they are
abbrev pub KeepsWays : Target → Function → Edit → Type 0
KeepsWays t f (Put gap op os) = IsPlain t (made f.next_id op os)
KeepsWays t f (Replace id op os) = (b : Block) (i : Instr) → Stands f id b i → StaysPlain t i (with_op op os i)
KeepsWays t f (Erase id) = (b : Block) (i : Instr) → Stands f id b i → IsPlain t i

-- the point is the entry or the exit of the instruction of that id
abbrev pub is_of : ℕ → Point → Bool
is_of id (Start n) = false
is_of id (Entry m) = nat_eq m id
is_of id (Exit m) = nat_eq m id

-- it is one of an instruction that comes or goes
abbrev pub comes_or_goes : Function → Edit → Point → Bool
comes_or_goes f (Put gap op os) p = is_of f.next_id p
comes_or_goes f (Replace id op os) p = false
comes_or_goes f (Erase id) p = is_of id p

-- the function after edits, one after the other
abbrev pub all_edited : Function → List Edit → Function
all_edited f [] = f
all_edited f (e ∷ es) = all_edited (edited f e) es
