-- The lines of a body, and the function of a document.
use Rattle.std.specs.Prelude.{◌≤◌, ℕ, List, Option, Some, None, Result, Ok, Err, codes, length, ◌+◌, is_some, if◌then◌else◌}
use Rattle.std.specs.List.{sum_by}
use Rattle.target_base.specs.declared.types.Target.{Target}
use Rattle.mir_func.specs.Value.{Function}
use Rattle.mir_func.specs.declared.func.Block.{Block}
use Rattle.mir_lines.specs.Bytes.{is_blank, skip, behind_word}
use Rattle.mir_lines.specs.Instructions.{without_comment, instruction_of}
use Rattle.mir_lines.specs.Blocks.{header_of, successors_of, liveins_of, or_none}
use Rattle.mir_lines.specs.declared.raw.RawHeader.{RawHeader}
use Rattle.mir_read.specs.declared.stop.TextKind.{TextKind}
use Rattle.mir_read.specs.declared.stop.TextKind.TheVariants as kinds
use Rattle.mir_read.specs.declared.keys.Keys.{Keys}
use Rattle.mir_read.specs.Names.{NameLists}
use Rattle.mir_read.specs.Ranges.{no_ranges, classes_of}
use Rattle.mir_read.specs.Reading.{◌>>=◌, or_fault}
use Rattle.mir_read.specs.Resolving.{no_headers, noted, successors_named, regs_named, instr_named}
use Rattle.mir_read.specs.Body.{BodyValue, no_blocks, is_begun, with_header, takes_successors, takes_liveins, with_successors, with_liveins, with_instr, operand_count, operands_of}
use Rattle.mir_text.specs.declared.reading.BodyReader.{BodyReader}

abbrev pub reading_of : Keys → BodyReader
reading_of k = record { keys = k; ranges = no_ranges; headers = no_headers; body = no_blocks }

unfoldable pub header_put : Target → BodyReader → RawHeader → BodyReader
header_put t r h = record r { headers = noted r.headers h.number h.name; body = with_header t r.body h }

unfoldable pub header_line : Target → BodyReader → List ℕ → Result BodyReader TextKind
header_line t r text = or_fault kinds.Token (header_of text) >>= λ h. Ok (header_put t r h)

unfoldable pub successors_line : BodyReader → List ℕ → Result BodyReader TextKind
successors_line r text =
    if takes_successors r.body
    then (or_fault kinds.Token (successors_of text) >>= λ es. Ok (record r { body = with_successors r.body (successors_named es) }))
    else Err kinds.Layout

unfoldable pub liveins_line : NameLists → BodyReader → List ℕ → Result BodyReader TextKind
liveins_line names r text =
    if takes_liveins r.body
    then (or_fault kinds.Token (liveins_of text) >>= λ ws. or_fault kinds.Name (regs_named names ws) >>= λ rs. Ok (record r { body = with_liveins r.body rs }))
    else Err kinds.Layout

unfoldable pub instr_line : Target → NameLists → BodyReader → List ℕ → Result BodyReader TextKind
instr_line t names r text =
    if is_begun r.body
    then (or_fault kinds.Token (instruction_of t text) >>= λ i. or_fault kinds.Name (instr_named names r.headers r.keys.registers r.ranges r.body.next_id i) >>= λ p. Ok (record r { ranges = p.0; body = with_instr r.body p.1 }))
    else Err kinds.Layout

abbrev pub liveins_or : Target → NameLists → BodyReader → List ℕ → Option (List ℕ) → Result BodyReader TextKind
liveins_or t names r text None = instr_line t names r text
liveins_or t names r text (Some list) = liveins_line names r list

abbrev pub successors_or : Target → NameLists → BodyReader → List ℕ → Option (List ℕ) → Result BodyReader TextKind
successors_or t names r text None = liveins_or t names r text (behind_word (codes "liveins:") text)
successors_or t names r text (Some list) = successors_line r list

-- a header, a list of a block, or an instruction
unfoldable pub worded : Target → NameLists → BodyReader → List ℕ → Result BodyReader TextKind
worded t names r text =
    if is_some (behind_word (codes "bb.") text) then header_line t r text
    else successors_or t names r text (behind_word (codes "successors:") text)

abbrev pub spaced : Target → NameLists → BodyReader → Option (List ℕ) → Result BodyReader TextKind
spaced t names r None = Err kinds.Layout
spaced t names r (Some text) = worded t names r (skip text)

-- a line of a body: nothing but a comment, or words behind a space
unfoldable pub body_line : Target → NameLists → BodyReader → List ℕ → Result BodyReader TextKind
body_line t names r line =
    let text = without_comment line in
    if is_blank text then Ok r else spaced t names r (behind_word (codes " ") text)

-- The function of the keys and blocks that are read.
unfoldable pub function_of : BodyReader → BodyValue → Function
function_of r b = record {
  name = or_none r.keys.name;
  head = r.keys.head;
  classes = classes_of r.ranges;
  frames = r.keys.frames;
  blocks = b.done;
  next_id = b.next_id;
}

-- How large they are.

abbrev pub block_operands : List Block → ℕ
block_operands bs = sum_by (λ b. operand_count b.instrs) bs

-- the ids, ranges, operands and frame objects of a function are no more than this
pub record IsFunctionWithin (n : ℕ) (f : Function) : Type 0 where
  pub ids : f.next_id ≤ n
  pub ranges : length f.classes ≤ n
  pub operands : block_operands f.blocks ≤ n
  pub frames : length f.frames ≤ n

-- what is read of a body is no more than this
pub record IsReadingWithin (n : ℕ) (r : BodyReader) : Type 0 where
  pub frames : length r.keys.frames ≤ n
  pub registers : length r.keys.registers.names ≤ n
  pub names : length r.ranges.names ≤ n
  pub given : length r.ranges.given ≤ n
  pub headers : length r.headers.numbers ≤ n
  pub ids : r.body.next_id ≤ n
  pub operands : operands_of r.body ≤ n

-- how much a line of a body adds
pub record AddsToReading (n : ℕ) (before after : BodyReader) : Type 0 where
  pub frames : length after.keys.frames ≤ length before.keys.frames + n
  pub registers : length after.keys.registers.names ≤ length before.keys.registers.names + n
  pub names : length after.ranges.names ≤ length before.ranges.names + n
  pub given : length after.ranges.given ≤ length before.ranges.given + n
  pub headers : length after.headers.numbers ≤ length before.headers.numbers + n
  pub ids : after.body.next_id ≤ before.body.next_id + n
  pub operands : operands_of after.body ≤ operands_of before.body + n
