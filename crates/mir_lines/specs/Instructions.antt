-- The instruction that a line spells, before its names are looked up.
use Rattle.std.specs.Prelude.{ℕ, zero, suc, ◌⊎◌, Bool, true, false, List, [], ◌∷◌, ◌++◌, Option, Some, None, length, ◌≤◌, ◌<◌, ◌+◌, codes, not, ◌&&◌, ◌||◌, ◌==◌, is_some, if◌then◌else◌}
use Rattle.std.proofs.Common.{inl, inr}
use Rattle.std.specs.List.{list_any}
use Rattle.target_base.specs.Names.{is_op_name}
use Rattle.target_base.specs.declared.types.Effect.{Effect}
use Rattle.target_base.specs.declared.types.Effect.TheVariants as effects
use Rattle.target_base.specs.declared.types.TextOptions.{TextOptions}
use Rattle.target_base.specs.declared.types.Target.{Target}
use Rattle.mir_lines.specs.declared.raw.RawOperand.{RawOperand}
use Rattle.mir_lines.specs.declared.raw.RawOperand.TheVariants as operands
use Rattle.mir_lines.specs.declared.raw.RawInstr.{RawInstr}
use Rattle.mir_lines.specs.declared.instructions.OperandSide.{OperandSide}
use Rattle.mir_lines.specs.declared.instructions.OperandSide.TheVariants as parts
use Rattle.mir_lines.specs.declared.instructions.ListTail.{ListTail}
use Rattle.mir_lines.specs.declared.instructions.ListTail.TheVariants as links
use Rattle.std.specs.Borrow.{Bor}
use Rattle.mir_lines.specs.Bytes.{is_word_byte, run, behind, skip, is_word, behind_word, is_ascii, is_blank}
use Rattle.mir_lines.specs.Parts.{joined}
use Rattle.mir_lines.specs.Reads.{◌>>=◌, before}
use Rattle.mir_lines.specs.Registers.{continues, is_tail_word, words_at, register_at}
use Rattle.mir_lines.specs.Operands.{operand_at, begins_register}

-- the line without its comment, which a semicolon outside double quotes begins
abbrev pub uncommented : Bool → List ℕ → List ℕ
uncommented quoted [] = []
uncommented quoted (b ∷ bs) =
    if b == 59 && not quoted then [] else b ∷ uncommented (if b == 34 then not quoted else quoted) bs

unfoldable pub without_comment : List ℕ → List ℕ
without_comment line = uncommented false line

abbrev pub is_tail_behind : Option (List ℕ) → Bool
is_tail_behind None = false
is_tail_behind (Some rest) = is_tail_word (skip rest)

-- a tail begins here: with `::`, or with one of its words, before which a comma may stand
unfoldable pub begins_tail : List ℕ → Bool
begins_tail text = is_some (behind_word (codes "::") text) || (is_tail_word text || is_tail_behind (behind_word (codes ",") text))

-- the tail behind the last operand, which may be empty; None where operands go on
unfoldable pub tail_at : List ℕ → Option (List ℕ)
tail_at text = if begins_tail (skip text) then Some (skip text) else (if is_blank text then Some [] else None)

-- an element, and the text behind the list's end or the text of the next element
abbrev pub linked : RawOperand → Option (List ℕ) → Option (List ℕ) → Option (RawOperand × (List ℕ ⊎ List ℕ))
linked o (Some rest) next = Some (o, inl rest)
linked o None None = None
linked o None (Some next) = Some (o, inr next)

abbrev pub link_of : ListTail → List ℕ ⊎ List ℕ
link_of (links.End rest) = inl rest.now
link_of (links.More next) = inr next.now

abbrev pub and_link : RawOperand × ListTail → RawOperand × (List ℕ ⊎ List ℕ)
and_link p = (p.0, link_of p.1)

-- a definition: a register behind its flags
unfoldable pub definition_at : List ℕ → Option (RawOperand × List ℕ)
definition_at text = words_at text >>= λ w. register_at true w.0 w.1 >>= λ r. Some (operands.Reg r.0, r.1)

-- An element of a list with commas between them: a definition, the last of which an equals sign follows, or
-- another operand, the last of which a tail follows or nothing.
unfoldable pub element_at : TextOptions → OperandSide → List ℕ → Option (RawOperand × (List ℕ ⊎ List ℕ))
element_at options parts.Definitions text =
    definition_at text >>= λ o. linked o.0 (behind_word (codes "=") (skip o.1)) (behind_word (codes ",") (skip o.1))
element_at options parts.Others text =
    operand_at options text >>= λ o. linked o.0 (tail_at o.1) (behind_word (codes ",") (skip o.1))

abbrev pub chained_behind : (List ℕ → Option (List RawOperand × List ℕ)) → List ℕ ⊎ List ℕ → Option (List RawOperand × List ℕ)
chained_behind more (inl rest) = Some ([], rest)
chained_behind more (inr next) = more next

-- Elements one after another, and the text behind the last. Each takes a byte at least, so n is large enough where
-- it is more than the bytes of the text.
abbrev pub chained : TextOptions → OperandSide → ℕ → List ℕ → Option (List RawOperand × List ℕ)
chained options part zero text = None
chained options part (suc n) text = element_at options part text >>= λ e. before e.0 (chained_behind (chained options part n) e.1)

unfoldable pub elements_at : TextOptions → OperandSide → List ℕ → Option (List RawOperand × List ℕ)
elements_at options part text = chained options part (suc (length text)) text

abbrev pub operands_behind : TextOptions → List ℕ → Option (List ℕ) → Option (List RawOperand × List ℕ)
operands_behind options text None = elements_at options parts.Others text
operands_behind options text (Some tail) = Some ([], tail)

-- the operands behind an opcode, and the tail
unfoldable pub operands_at : TextOptions → List ℕ → Option (List RawOperand × List ℕ)
operands_at options text = operands_behind options text (tail_at text)

-- an opcode's name
unfoldable pub opcode_at : List ℕ → Option (List ℕ × List ℕ)
opcode_at text =
    if is_op_name (run is_word_byte text) && not (continues (behind is_word_byte text))
    then Some (run is_word_byte text, behind is_word_byte text) else None

-- the generic opcodes that have no meaning of their own
unfoldable pub is_generic : List ℕ → Bool
is_generic name =
    is_word name (codes "INLINEASM")
    || (is_word name (codes "INLINEASM_BR")
    || (is_word name (codes "BUNDLE")
    || (is_word name (codes "DBG_VALUE")
    || (is_word name (codes "DBG_VALUE_LIST")
    || (is_word name (codes "DBG_INSTR_REF")
    || (is_word name (codes "DBG_PHI")
    || (is_word name (codes "DBG_LABEL")
    || (is_word name (codes "EH_LABEL")
    || (is_word name (codes "SUBREG_TO_REG")
    || (is_word name (codes "STATEPOINT")
    || (is_word name (codes "PATCHPOINT")
    || (is_word name (codes "STACKMAP")
    || (is_word name (codes "KILL")
    || is_word name (codes "CFI_INSTRUCTION"))))))))))))))

abbrev pub is_opaque : Effect → Bool
is_opaque (effects.Opaque kind) = true
is_opaque e = false

-- the target has an opaque opcode of this name
abbrev pub declares_opaque : Target → List ℕ → Bool
declares_opaque t name = list_any (λ o. is_opaque o.effect && is_word o.name name) t.opcodes

-- the generic opcodes that no stage has a meaning for: an opaque one of the target has a meaning
unfoldable pub is_excluded : Target → List ℕ → Bool
is_excluded t name = is_generic name && not (declares_opaque t name)

unfoldable pub instr_of : List RawOperand → List (List ℕ) → List ℕ → Bool → List ℕ → RawInstr
instr_of os flags name excluded tail = record { operands = os; flags = joined (codes " ") flags; opcode = name; excluded = excluded; tail = tail }

-- the operands of an opcode without a meaning aren't read
unfoldable pub behind_opcode : Target → List RawOperand → List (List ℕ) → List ℕ → List ℕ → Option RawInstr
behind_opcode t defs flags name text =
    if is_excluded t name
    then (if is_ascii text then Some (instr_of defs flags name true []) else None)
    else (operands_at t.options text >>= λ o. Some (instr_of (defs ++ o.0) flags name false o.1))

-- what stands behind the definitions
unfoldable pub behind_definitions : Target → List RawOperand → List (List ℕ) → List ℕ → Option RawInstr
behind_definitions t defs flags text = opcode_at text >>= λ o. behind_opcode t defs flags o.0 o.1

-- an instruction that begins with definitions
abbrev pub with_definitions : Target → List ℕ → Option RawInstr
with_definitions t text = elements_at t.options parts.Definitions text >>= λ d. words_at d.1 >>= λ f. behind_definitions t d.0 f.0 f.1

-- definitions, where a register stands behind the words; then flags, the opcode, operands, a tail
abbrev pub instruction_in : Target → List ℕ → List (List ℕ) → List ℕ → Option RawInstr
instruction_in t text words behind = if begins_register behind then with_definitions t text else behind_definitions t [] words behind

-- The target says which spellings of symbols it takes, and which of the generic opcodes have a meaning.
unfoldable pub instruction_of : Target → List ℕ → Option RawInstr
instruction_of t text = words_at text >>= λ w. instruction_in t text w.0 w.1

-- what follows an element of a text of n bytes is shorter, but for a tail, which may be all of it
abbrev pub IsShorter : ListTail → OperandSide → ℕ → Type 0
IsShorter (links.More next) part n = length next.now < n
IsShorter (links.End rest) parts.Definitions n = length rest.now < n
IsShorter (links.End rest) parts.Others n = length rest.now ≤ n

-- how many elements a text of n bytes may have behind m others
abbrev pub AreFew : OperandSide → ℕ → ℕ → List RawOperand × Bor (List ℕ) → Type 0
AreFew parts.Definitions m n p = length p.0 + length p.1.now ≤ m + n
AreFew parts.Others m n p = length p.0 ≤ m + n + 1
