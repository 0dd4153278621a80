-- What the bytes of a document spell, or the first line that can't stand behind those before it.
use Rattle.std.specs.Prelude.{◌≡◌, ◌≤◌, ℕ, Bool, List, [], ◌∷◌, ◌++◌, Option, Some, None, Result, Ok, Err, codes, length, ◌==◌, ◌&&◌, ◌||◌, ◌+◌, is_some, if◌then◌else◌}
use Rattle.std.specs.List.{onto_first}
use Rattle.target_base.specs.declared.types.Target.{Target}
use Rattle.mir_lines.specs.Bytes.{is_blank, is_word, skip_back, behind_word}
use Rattle.mir_read.specs.declared.stop.TextKind.{TextKind}
use Rattle.mir_read.specs.declared.stop.TextKind.TheVariants as kinds
use Rattle.mir_read.specs.declared.stop.ReadStop.{ReadStop}
use Rattle.mir_read.specs.declared.stop.ReadStop.TheVariants as stops
use Rattle.mir_read.specs.declared.keys.Key.TheVariants as key
use Rattle.mir_read.specs.declared.keys.Keys.{Keys}
use Rattle.mir_read.specs.Names.{NameLists, name_lists}
use Rattle.mir_read.specs.Reading.{◌>>=◌}
use Rattle.mir_read.specs.Keys.{no_keys, is_key, key_line}
use Rattle.mir_read.specs.Body.{is_begun, closed}
use Rattle.mir_text.specs.declared.doc.TextFault.{TextFault}
use Rattle.mir_text.specs.declared.doc.TextStop.{TextStop}
use Rattle.mir_text.specs.declared.doc.TextStop.TheVariants as text_stops
use Rattle.mir_text.specs.declared.doc.Doc.{Doc}
use Rattle.mir_text.specs.declared.doc.Doc.TheVariants as docs
use Rattle.mir_text.specs.declared.reading.BodyReader.{BodyReader}
use Rattle.mir_text.specs.declared.document.State.{State}
use Rattle.mir_text.specs.declared.document.State.TheVariants as states
use Rattle.mir_text.specs.BodyLines.{reading_of, body_line, function_of, IsFunctionWithin, IsReadingWithin}

-- the lines of a text, each of which a newline ends; the last may lack it
unfoldable pub lines : List ℕ → List (List ℕ)
lines [] = []
lines (b ∷ bs) = if b == 10 then [] ∷ lines bs else onto_first b (lines bs)

-- Lines of a document.

-- the end of a document, behind a block
unfoldable pub end_line : Target → List ℕ → BodyReader → Result State TextKind
end_line t before r =
    if is_begun r.body then Ok (states.Function before (function_of r (closed t r.body None))) else Err kinds.Layout

abbrev pub as_body : List ℕ → BodyReader → State
as_body before r = states.Body before r

unfoldable pub body_or_end : Target → NameLists → List ℕ → BodyReader → List ℕ → Result State TextKind
body_or_end t names before r line =
    if is_word line (codes "...") then end_line t before r
    else (body_line t names r line >>= λ s. Ok (states.Body before s))

-- the body comes behind its key's line
abbrev pub keys_or_body : List ℕ → Keys → State
keys_or_body before k = if is_key k.key key.Body then states.Body before (reading_of k) else states.Keys before k

abbrev pub with_key_line : NameLists → List ℕ → Keys → List ℕ → Result State TextKind
with_key_line names before k line = key_line names k line >>= λ l. Ok (keys_or_body before l)

abbrev pub begins_comment : List ℕ → Bool
begins_comment line = is_some (behind_word (codes "#") line)

-- the first line of a document, or a line before it; IR may only come first
unfoldable pub outside_line : Bool → List ℕ → List ℕ → Result State TextKind
outside_line first before line =
    if is_blank line || begins_comment line then Ok (states.Outside (before ++ (line ++ codes "\n")))
    else (if is_word (skip_back line) (codes "---") then Ok (states.Keys before no_keys)
    else (if first && is_word (skip_back line) (codes "--- |") then Ok states.Ir else Err kinds.Layout))

unfoldable pub ir_line : List ℕ → Result State TextKind
ir_line line =
    if is_word line (codes "...") then Ok states.EndOfIr
    else (if is_blank line || is_some (behind_word (codes " ") line) then Ok states.Ir else Err kinds.Layout)

-- what a line makes of the document so far, or the first test that fails there
unfoldable pub line_after : Target → NameLists → Bool → State → List ℕ → Result State TextKind
line_after t names first (states.Outside before) line = outside_line first before line
line_after t names first states.Ir line = ir_line line
line_after t names first (states.Keys before k) line = with_key_line names before k line
line_after t names first (states.Body before r) line = body_or_end t names before r line
line_after t names first states.EndOfIr line = Err kinds.Layout
line_after t names first (states.Function before f) line = Err kinds.Layout

-- Documents.

-- the document of these bytes where no line is left; None inside a document
unfoldable pub ended : List ℕ → State → Option Doc
ended bytes (states.Outside before) = Some (docs.Rest bytes)
ended bytes states.Ir = None
ended bytes (states.Keys before k) = None
ended bytes (states.Body before r) = None
ended bytes states.EndOfIr = Some (docs.Ir bytes)
ended bytes (states.Function before f) = Some (docs.Function before f)

abbrev pub at_end : ℕ → Option Doc → Result Doc TextFault
at_end n None = Err (record { line = n; kind = kinds.End })
at_end n (Some d) = Ok d

-- goes on behind a line that stands
abbrev pub then_at : ℕ → Result State TextKind → (State → Result Doc TextFault) → Result Doc TextFault
then_at n (Ok s) f = f s
then_at n (Err kind) f = Err (record { line = n; kind = kind })

-- what lines spell behind those of the state, the next of which has this number
unfoldable pub lines_after : Target → Bool → List ℕ → ℕ → State → List (List ℕ) → Result Doc TextFault
lines_after t first bytes n s [] = at_end n (ended bytes s)
lines_after t first bytes n s (line ∷ more) = then_at n (line_after t (name_lists t) first s line) (λ after. lines_after t first bytes (n + 1) after more)

-- The document that the bytes spell, the first line of which has this number, or its fault. The first document of a
-- file may be IR.
abbrev pub document_of : Target → Bool → ℕ → List ℕ → Result Doc TextFault
document_of t first n bytes = lines_after t first bytes n (states.Outside []) (lines bytes)

-- the bytes spell this document
abbrev pub Spells : Target → Bool → ℕ → List ℕ → Doc → Type 0
Spells t first n bytes d = document_of t first n bytes ≡ Ok d

-- they spell none, and this is their fault
abbrev pub FaultOf : Target → Bool → ℕ → List ℕ → TextFault → Type 0
FaultOf t first n bytes fault = document_of t first n bytes ≡ Err fault

abbrev pub stop_at : ℕ → ReadStop → TextStop
stop_at n (stops.Fault kind) = text_stops.Fault (record { line = n; kind = kind })
stop_at n (stops.Memory e) = text_stops.Memory e

-- what a function answers for a document, unless memory ran out
abbrev pub Fails : TextStop → Result Doc TextFault → Type 0
Fails (text_stops.Memory e) read = Unit {0}
Fails (text_stops.Fault fault) read = read ≡ Err fault

abbrev pub Gives : Result Doc TextStop → Result Doc TextFault → Type 0
Gives (Ok d) read = read ≡ Ok d
Gives (Err e) read = Fails e read

-- How large a document is.

abbrev pub IsBulkWithin : ℕ → Doc → Type 0
IsBulkWithin n (docs.Function before f) = IsFunctionWithin n f
IsBulkWithin n d = Unit {0}

pub record AreKeysWithin (n : ℕ) (k : Keys) : Type 0 where
  pub frames : length k.frames ≤ n
  pub registers : length k.registers.names ≤ n

abbrev pub IsStateWithin : ℕ → State → Type 0
IsStateWithin n (states.Outside before) = Unit {0}
IsStateWithin n states.Ir = Unit {0}
IsStateWithin n (states.Keys before k) = AreKeysWithin n k
IsStateWithin n (states.Body before r) = IsReadingWithin n r
IsStateWithin n states.EndOfIr = Unit {0}
IsStateWithin n (states.Function before f) = IsFunctionWithin n f
