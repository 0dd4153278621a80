-- The one printed spelling of documents.
use Rattle.std.specs.Prelude.{ℕ, zero, suc, Bool, false, List, [], ◌∷◌, ◌++◌, Option, Some, None, codes, if◌then◌else◌, slice_get, slice_set, take, drop, not, ◌&&◌, ◌==◌, ◌/◌, ◌%◌, ◌+◌, length}
use Rattle.std.specs.List.{join_by}
use Rattle.std.specs.Fmt.{decimal, signed_decimal, digit_glyph}
use Rattle.target_base.specs.declared.types.Target.{Target}
use Rattle.target_base.specs.declared.types.Reg.{Reg}
use Rattle.target_base.specs.declared.types.RegDesc.{RegDesc}
use Rattle.target_base.specs.declared.types.IndexId.{IndexId}
use Rattle.target_base.specs.declared.types.ClassId.{ClassId}
use Rattle.target_base.specs.declared.types.ClassDesc.{ClassDesc}
use Rattle.target_base.specs.declared.types.Role.{Role}
use Rattle.mir_func.specs.Value.{Function}
use Rattle.mir_func.specs.Spelling.{index_name, mask_name, op_name}
use Rattle.mir_func.specs.Binding.{after_first, explicit_roles, first_role, is_early, passes, roles_of}
use Rattle.mir_meaning.specs.Codes.{is_open}
use Rattle.mir_func.specs.declared.func.Loc.{Loc}
use Rattle.mir_func.specs.declared.func.Loc.TheVariants as locs
use Rattle.mir_func.specs.declared.func.RegOp.{RegOp}
use Rattle.mir_func.specs.declared.func.Operand.{Operand}
use Rattle.mir_func.specs.declared.func.Operand.TheVariants as operands
use Rattle.mir_func.specs.declared.func.Instr.{Instr}
use Rattle.mir_func.specs.declared.func.Edge.{Edge}
use Rattle.mir_func.specs.declared.func.Block.{Block}
use Rattle.mir_text.specs.declared.doc.Doc.{Doc}
use Rattle.mir_text.specs.declared.doc.Doc.TheVariants as docs

-- names of the target; a number that the target doesn't have prints as nothing

abbrev pub reg_name_in : Option RegDesc → List ℕ
reg_name_in None = []
reg_name_in (Some d) = d.name

abbrev pub reg_name : Target → Reg → List ℕ
reg_name t r = reg_name_in (slice_get t.regs r.0)

abbrev pub class_name_in : Option ClassDesc → List ℕ
class_name_in None = []
class_name_in (Some d) = d.name

abbrev pub class_name : Target → ClassId → List ℕ
class_name t c = class_name_in (slice_get t.classes c.0)

-- a word where a flag is on
abbrev pub flag : Bool → List ℕ → List ℕ
flag on word = if on then word else []

abbrev pub is_explicit_def : Operand → Bool
is_explicit_def (operands.Reg r) = r.def && not r.implicit
is_explicit_def o = false

-- how many explicit definitions stand first
abbrev pub def_count : List Operand → ℕ
def_count [] = 0
def_count (o ∷ os) = if is_explicit_def o then def_count os + 1 else 0

-- Registers. `left` holds the classes that are still to be printed: the class of a virtual
-- register stands behind the first operand in the body that names it, and behind no later one.

abbrev pub implicit_word : RegOp → List ℕ
implicit_word r = if r.implicit then (if r.def then codes "implicit-def " else codes "implicit ") else []

abbrev pub print_index : Target → Option IndexId → List ℕ
print_index t None = []
print_index t (Some i) = codes "." ++ index_name t i

abbrev pub print_class : Target → Option (Option ClassId) → List ℕ
print_class t (Some (Some c)) = codes ":" ++ class_name t c
print_class t k = []

abbrev pub print_loc : Target → List (Option ClassId) → RegOp → Loc → List ℕ
print_loc t left r (locs.Virtual n) = codes "%" ++ (decimal n ++ (print_index t r.index ++ print_class t (slice_get left n)))
print_loc t left r (locs.Fixed p) = codes "$" ++ reg_name t p

unfoldable pub print_reg : Target → List (Option ClassId) → Bool → RegOp → List ℕ
print_reg t left early r =
    implicit_word r
    ++ (flag r.undef (codes "undef ")
    ++ (flag (early && (r.def && not r.implicit)) (codes "early-clobber ")
    ++ (flag r.renamable (codes "renamable ")
    ++ print_loc t left r r.loc)))

abbrev pub left_behind_loc : List (Option ClassId) → Loc → List (Option ClassId)
left_behind_loc left (locs.Virtual n) = slice_set left n None
left_behind_loc left (locs.Fixed p) = left

abbrev pub left_behind : List (Option ClassId) → Operand → List (Option ClassId)
left_behind left (operands.Reg r) = left_behind_loc left r.loc
left_behind left o = left

abbrev pub left_behind_all : List (Option ClassId) → List Operand → List (Option ClassId)
left_behind_all left [] = left
left_behind_all left (o ∷ os) = left_behind_all (left_behind left o) os

-- an operand; `early` says that it stands in an early-clobber role
unfoldable pub print_operand : Target → List (Option ClassId) → Bool → Operand → List ℕ
print_operand t left early (operands.Reg r) = print_reg t left early r
print_operand t left early (operands.Imm z) = signed_decimal z
print_operand t left early (operands.Block n) = codes "%bb." ++ decimal n
print_operand t left early (operands.Stack n) = codes "%stack." ++ decimal n
print_operand t left early (operands.FixedStack n) = codes "%fixed-stack." ++ decimal n
print_operand t left early (operands.Symbol name) = name
print_operand t left early (operands.Index i) = codes "%subreg." ++ index_name t i
print_operand t left early (operands.Mask m) = mask_name t m

-- operands with commas between them, in order, each in the next of these explicit roles

abbrev pub print_more : Target → List (Option ClassId) → List Role → List Operand → List ℕ
print_more t left rs [] = []
print_more t left rs (o ∷ os) = codes ", " ++ (print_operand t left (passes is_early (first_role rs)) o ++ print_more t (left_behind left o) (after_first rs) os)

unfoldable pub print_operands : Target → List (Option ClassId) → List Role → List Operand → List ℕ
print_operands t left rs [] = []
print_operands t left rs (o ∷ os) = print_operand t left (passes is_early (first_role rs)) o ++ print_more t (left_behind left o) (after_first rs) os

-- a tail that begins with a comma follows at once, any other after a space
abbrev pub print_tail : List ℕ → List ℕ
print_tail [] = []
print_tail (b ∷ bs) = flag (not (b == 44)) (codes " ") ++ b ∷ bs

-- the words of an instruction: definitions in their roles, flags, opcode, other operands, tail
unfoldable pub print_parts : Target → List (Option ClassId) → Instr → List Operand → List Operand → List ℕ
print_parts t left i defs others =
    print_operands t left (explicit_roles (roles_of t i)) defs
    ++ (flag (not (length defs == 0)) (codes " = ")
    ++ (i.flags
    ++ (flag (not (length i.flags == 0)) (codes " ")
    ++ (op_name t i.op
    ++ (flag (not (length others == 0)) (codes " ")
    ++ (print_operands t (left_behind_all left defs) [] others
    ++ print_tail i.tail))))))

unfoldable pub print_instr : Target → List (Option ClassId) → Instr → List ℕ
print_instr t left i = print_parts t left i (take (def_count i.operands) i.operands) (drop (def_count i.operands) i.operands)

abbrev pub print_instrs : Target → List (Option ClassId) → List Instr → List ℕ
print_instrs t left [] = []
print_instrs t left (i ∷ is) = codes "    " ++ (print_instr t left i ++ (codes "\n" ++ print_instrs t (left_behind_all left i.operands) is))

abbrev pub left_behind_instrs : List (Option ClassId) → List Instr → List (Option ClassId)
left_behind_instrs left [] = left
left_behind_instrs left (i ∷ is) = left_behind_instrs (left_behind_all left i.operands) is

-- the last k digits of a number to base 16, in lower case
unfoldable pub hex : ℕ → ℕ → List ℕ
hex zero n = []
hex (suc k) n = hex k (n / 16) ++ digit_glyph false (n % 16) ∷ []

unfoldable pub print_edge : Edge → List ℕ
print_edge e = codes "%bb." ++ (decimal e.block ++ (codes "(0x" ++ (hex 8 e.prob ++ codes ")")))

abbrev pub print_edges : Edge → List Edge → List ℕ
print_edges e es = codes "    successors: " ++ (join_by print_edge (codes ", ") (e ∷ es) ++ codes "\n")

-- the successors of a block; of an open one, which has none, a line with nothing behind the colon
abbrev pub print_successors : Bool → List Edge → List ℕ
print_successors is_open_block [] = flag is_open_block (codes "    successors:\n")
print_successors is_open_block (e ∷ es) = print_edges e es

abbrev pub print_livein : Target → Reg → List ℕ
print_livein t r = codes "$" ++ reg_name t r

abbrev pub print_liveins : Target → List Reg → List ℕ
print_liveins t [] = []
print_liveins t (r ∷ rs) = codes "    liveins: " ++ (join_by (print_livein t) (codes ", ") (r ∷ rs) ++ codes "\n")

abbrev pub print_block_name : List ℕ → List ℕ
print_block_name [] = []
print_block_name (c ∷ cs) = codes "." ++ c ∷ cs

abbrev pub print_attributes : List ℕ → List ℕ
print_attributes [] = []
print_attributes (c ∷ cs) = codes " (" ++ ((c ∷ cs) ++ codes ")")

unfoldable pub print_header : Block → List ℕ
print_header b = codes "  bb." ++ (decimal b.number ++ (print_block_name b.name ++ (print_attributes b.attributes ++ codes ":\n")))

unfoldable pub print_block : Target → List (Option ClassId) → Block → List ℕ
print_block t left b = print_header b ++ (print_successors (is_open t b) b.successors ++ (print_liveins t b.liveins ++ print_instrs t left b.instrs))

abbrev pub print_blocks : Target → List (Option ClassId) → List Block → List ℕ
print_blocks t left [] = []
print_blocks t left (b ∷ bs) = print_block t left b ++ print_blocks t (left_behind_instrs left b.instrs) bs

-- a function document of these key lines and blocks
unfoldable pub print_lines : Target → List ℕ → List (Option ClassId) → List Block → List ℕ
print_lines t head classes blocks = codes "---\n" ++ (head ++ (print_blocks t classes blocks ++ codes "...\n"))

abbrev pub print_function : Target → Function → List ℕ
print_function t f = print_lines t f.head f.classes f.blocks

-- a document: what isn't a function stands as it was read
unfoldable pub print_doc : Target → Doc → List ℕ
print_doc t (docs.Ir lines) = lines
print_doc t (docs.Function before f) = before ++ print_function t f
print_doc t (docs.Rest lines) = lines
