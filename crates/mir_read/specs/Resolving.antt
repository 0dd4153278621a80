-- The names of a line, looked up.
use Rattle.std.specs.Prelude.{◌≤◌, ℕ, Bool, false, List, [], ◌∷◌, ◌++◌, Option, Some, None, length, map, not, ◌==◌, ◌/◌, ◌%◌, ◌+◌, slice_get, position, option_map, option_and_then, if◌then◌else◌}
use Rattle.std.specs.List.{list_all}
use Rattle.target_base.specs.Storage.{same_numbers}
use Rattle.target_base.specs.declared.types.Reg.{Reg}
use Rattle.target_base.specs.declared.types.IndexId.{IndexId}
use Rattle.mir_func.specs.declared.func.Loc.{Loc}
use Rattle.mir_func.specs.declared.func.Loc.TheVariants as locs
use Rattle.mir_func.specs.declared.func.RegOp.{RegOp}
use Rattle.mir_func.specs.declared.func.Op.{Op}
use Rattle.mir_func.specs.declared.func.Op.TheVariants as ops
use Rattle.mir_func.specs.declared.func.Operand.{Operand}
use Rattle.mir_func.specs.declared.func.Operand.TheVariants as operands
use Rattle.mir_func.specs.declared.func.Instr.{Instr}
use Rattle.mir_func.specs.declared.func.Edge.{Edge}
use Rattle.mir_lines.specs.declared.raw.RawPlace.{RawPlace}
use Rattle.mir_lines.specs.declared.raw.RawPlace.TheVariants as places
use Rattle.mir_lines.specs.declared.raw.RawReg.{RawReg}
use Rattle.mir_lines.specs.declared.raw.RawOperand.{RawOperand}
use Rattle.mir_lines.specs.declared.raw.RawOperand.TheVariants as raw
use Rattle.mir_lines.specs.declared.raw.RawInstr.{RawInstr}
use Rattle.mir_lines.specs.declared.raw.RawEdge.{RawEdge}
use Rattle.mir_read.specs.declared.ranges.AnnotatedClass.{AnnotatedClass}
use Rattle.mir_read.specs.declared.ranges.AnnotatedClass.TheVariants as given
use Rattle.mir_read.specs.declared.ranges.Ranges.{Ranges}
use Rattle.mir_read.specs.declared.resolve.Headers.{Headers}
use Rattle.mir_read.specs.Names.{NameLists, reg_named, index_named, class_named, mask_named, op_named, has_flag}
use Rattle.mir_read.specs.Ranges.{given_to, mentioned, range_number}

infixl 10 ◌>>?◌
abbrev pub ◌>>?◌ : {A B : Type 0} → Option A → (A → Option B) → Option B
o >>? f = option_and_then f o

-- The first header of each block number on the lines so far.

abbrev pub no_headers : Headers
no_headers = record { numbers = []; names = [] }

abbrev pub noted_at : Headers → ℕ → List ℕ → Option ℕ → Headers
noted_at h n name None = record { numbers = h.numbers ++ n ∷ []; names = h.names ++ name ∷ [] }
noted_at h n name (Some k) = h

unfoldable pub noted : Headers → ℕ → List ℕ → Headers
noted h n name = noted_at h n name (position (λ m. m == n) h.numbers)

abbrev pub name_differs : Option (List ℕ) → List ℕ → Bool
name_differs None name = false
name_differs (Some header) name = not (same_numbers header name)

abbrev pub header_at : Headers → Option ℕ → Option (List ℕ)
header_at h None = None
header_at h (Some k) = slice_get h.names k

-- a name behind a block's number isn't the one of its header on an earlier line
unfoldable pub differs : Headers → ℕ → Option (List ℕ) → Bool
differs h n None = false
differs h n (Some name) = name_differs (header_at h (position (λ m. m == n) h.numbers)) name

-- a written index
abbrev pub index_if : NameLists → Option (List ℕ) → Option (Option IndexId)
index_if names None = Some None
index_if names (Some w) = option_map Some (index_named names w)

-- what a written class gives
abbrev pub class_if : NameLists → Option (List ℕ) → Option AnnotatedClass
class_if names None = Some given.Nothing
class_if names (Some w) = option_map given.One (class_named names w)

-- the registers so far, and where an operand lies and its index
unfoldable pub placed : NameLists → Ranges → Ranges → RawPlace → Option (Ranges × Loc × Option IndexId)
placed names keyed r (places.Fixed w) = option_map (λ p. (r, locs.Fixed p, None)) (reg_named names w)
placed names keyed r (places.Virtual w index class) =
    index_if names index >>? λ i. class_if names class >>? λ g. Some (mentioned r w (given_to keyed w) g, locs.Virtual (range_number r w), i)

unfoldable pub reg_op : Loc → Option IndexId → RawReg → RegOp
reg_op loc index o = record {
  loc = loc;
  index = index;
  def = o.def;
  implicit = o.implicit;
  undef = o.undef;
  early = o.early;
  renamable = false;
  tie = o.tie;
}

-- the registers so far, and an operand with its names looked up; None where a name isn't known
unfoldable pub operand_named : NameLists → Headers → Ranges → Ranges → RawOperand → Option (Ranges × Operand)
operand_named names h keyed r (raw.Reg o) = option_map (λ p. (p.0, operands.Reg (reg_op p.1 p.2 o))) (placed names keyed r o.place)
operand_named names h keyed r (raw.Imm n) = Some (r, operands.Imm n)
operand_named names h keyed r (raw.Block n name) = if differs h n name then None else Some (r, operands.Block n)
operand_named names h keyed r (raw.Stack n) = Some (r, operands.Stack n)
operand_named names h keyed r (raw.FixedStack n) = Some (r, operands.FixedStack n)
operand_named names h keyed r (raw.Symbol text flags) = if list_all (has_flag names) flags then Some (r, operands.Symbol text) else None
operand_named names h keyed r (raw.Index w) = option_map (λ i. (r, operands.Index i)) (index_named names w)
operand_named names h keyed r (raw.Mask w) = option_map (λ m. (r, operands.Mask m)) (mask_named names w)

abbrev pub operands_named : NameLists → Headers → Ranges → Ranges → List RawOperand → Option (Ranges × List Operand)
operands_named names h keyed r [] = Some (r, [])
operands_named names h keyed r (o ∷ os) =
    operand_named names h keyed r o >>? λ p. operands_named names h keyed p.0 os >>? λ q. Some (q.0, p.1 ∷ q.1)

abbrev pub opcode_named : NameLists → RawInstr → Option Op
opcode_named names i = if i.excluded then Some (ops.Excluded i.opcode) else option_map ops.Known (op_named names i.opcode)

unfoldable pub instr_of : ℕ → RawInstr → Op → List Operand → Instr
instr_of id i op os = record { id = id; op = op; flags = i.flags; operands = os; tail = i.tail }

-- the registers so far, and the instruction of this id with its names looked up
unfoldable pub instr_named : NameLists → Headers → Ranges → Ranges → ℕ → RawInstr → Option (Ranges × Instr)
instr_named names h keyed r id i =
    opcode_named names i >>? λ op. operands_named names h keyed r i.operands >>? λ p. Some (p.0, instr_of id i op p.1)

-- the registers of a `liveins:` line
abbrev pub regs_named : NameLists → List (List ℕ) → Option (List Reg)
regs_named names [] = Some []
regs_named names (w ∷ ws) = reg_named names w >>? λ r. regs_named names ws >>? λ rs. Some (r ∷ rs)

-- equal shares of 2^31, and what is left of it
abbrev pub share : ℕ → ℕ
share n = 2147483648 / n

abbrev pub edge : ℕ → ℕ → Edge
edge p n = record { block = n; prob = p }

-- equal shares for these blocks; what is left of 2^31 goes to the first
unfoldable pub equal_shares : List ℕ → List Edge
equal_shares [] = []
equal_shares (n ∷ ns) =
    edge (share (length (n ∷ ns)) + 2147483648 % length (n ∷ ns)) n ∷ map (edge (share (length (n ∷ ns)))) ns

abbrev pub with_share : RawEdge → Option Edge
with_share e = option_map (λ p. edge p e.block) e.prob

abbrev pub shared : List RawEdge → Option (List Edge)
shared [] = Some []
shared (e ∷ es) = with_share e >>? λ x. shared es >>? λ xs. Some (x ∷ xs)

abbrev pub or_equal : Option (List Edge) → List RawEdge → List Edge
or_equal None es = equal_shares (map (λ e. e.block) es)
or_equal (Some made) es = made

-- the successors of a `successors:` line; without probabilities they have equal shares
unfoldable pub successors_named : List RawEdge → List Edge
successors_named es = or_equal (shared es) es

-- as many operands as before the look-up, and as many more registers at most
pub record HasMore (before : Ranges) (n : ℕ) (p : Ranges × List Operand) : Type 0 where
  pub ranges : length p.0.names ≤ length before.names + n
  pub given : length p.0.given ≤ length before.given + n
  pub operands : length p.1 ≤ n
