-- How the program ends.
use Rattle.std.specs.Prelude.{ℕ, List, [], ◌++◌, codes}
use Rattle.std.specs.Borrow.{Bor}
use Rattle.std.specs.List.{flat_map}
use Rattle.std.specs.Fmt.{decimal}
use Rattle.mir_func.specs.declared.func.Place.{Place}
use Rattle.machine_verify.specs.declared.stop.Invalid.{Invalid}
use Rattle.target_desc.specs.declared.fault.TargetKind.{TargetKind}
use Rattle.target_desc.specs.declared.fault.TargetKind.TheVariants as target_kinds
use Rattle.mir_text.specs.declared.doc.TextKind.{TextKind}
use Rattle.mir_text.specs.declared.doc.TextKind.TheVariants as text_kinds
use Rattle.pipeline.specs.declared.guarded.stop.LimitName.{LimitName}
use Rattle.pipeline.specs.declared.guarded.stop.LimitName.TheVariants as limits
use Rattle.ra_top.specs.declared.commands.status.Status.{Status}
use Rattle.ra_top.specs.declared.commands.status.Status.TheVariants as status

-- the number that the process ends with
abbrev pub code_of : Status → ℕ
code_of status.Done = 0
code_of (status.Target fault) = 1
code_of (status.Text fault) = 1
code_of (status.Limit limit) = 1
code_of (status.Invalid x) = 1
code_of status.Usage = 2
code_of status.ReadFault = 3
code_of status.WriteFault = 4
code_of status.Memory = 5
code_of (status.Unassignable p) = 6
code_of status.NotYet = 7

-- the names of limits and tests, in lower case
abbrev pub limit_word : LimitName → List ℕ
limit_word limits.TargetBytes = codes "targetbytes"
limit_word limits.File = codes "file"
limit_word limits.Document = codes "document"
limit_word limits.Blocks = codes "blocks"
limit_word limits.Instructions = codes "instructions"
limit_word limits.Registers = codes "registers"
limit_word limits.Variables = codes "variables"
limit_word limits.Ranges = codes "ranges"

abbrev pub target_kind_word : TargetKind → List ℕ
target_kind_word target_kinds.Layout = codes "layout"
target_kind_word target_kinds.Name = codes "name"
target_kind_word target_kinds.Rule = codes "rule"
target_kind_word target_kinds.End = codes "end"

abbrev pub text_kind_word : TextKind → List ℕ
text_kind_word text_kinds.Layout = codes "layout"
text_kind_word text_kinds.Token = codes "token"
text_kind_word text_kinds.Name = codes "name"
text_kind_word text_kinds.End = codes "end"

-- parts one after the other
abbrev pub joined : List (Bor (List ℕ)) → List ℕ
joined parts = flat_map (λ p. p.now) parts

-- the line of a fault of a text: `llra: FILE:LINE: KIND`
abbrev pub fault_line : List ℕ → List ℕ → List ℕ → List ℕ → List ℕ
fault_line file number before kind = codes "llra: " ++ (file ++ (codes ":" ++ (number ++ (before ++ (kind ++ (codes "\n" ++ []))))))

abbrev pub limit_line : List ℕ → List ℕ → List ℕ
limit_line file limit = codes "llra: " ++ (file ++ (codes ": limit " ++ (limit ++ (codes "\n" ++ []))))

-- the line of a function that is refused, with its name, place and cause
abbrev pub refusal_line : List ℕ → List ℕ
refusal_line detail = codes "llra: " ++ (detail ++ (codes "\n" ++ []))

-- the line on the error sink, for a file of a name, and a detail: the number of its line where the status is a fault
-- of a text, or what is said of a function
abbrev pub line_of : Status → List ℕ → List ℕ → List ℕ
line_of status.Done file number = []
line_of status.Usage file number = codes "llra: usage\n"
line_of (status.Target fault) file number = fault_line file number (codes ": target ") (target_kind_word fault.kind)
line_of (status.Text fault) file number = fault_line file number (codes ": ") (text_kind_word fault.kind)
line_of (status.Limit limit) file number = limit_line file (limit_word limit)
line_of (status.Invalid x) file detail = refusal_line detail
line_of (status.Unassignable p) file detail = refusal_line detail
line_of status.ReadFault file number = codes "llra: cannot read " ++ (file ++ codes "\n")
line_of status.WriteFault file number = codes "llra: cannot write\n"
line_of status.Memory file number = codes "llra: out of memory\n"
line_of status.NotYet file number = codes "llra: not yet\n"

-- what is said of a function at a place: `FUNCTION: bb.N:K`
abbrev pub place_words : List ℕ → Place → List ℕ
place_words name p = name ++ (codes ": bb." ++ (decimal p.block ++ (codes ":" ++ decimal p.at)))

-- a rule is broken there
abbrev pub invalid_words : List ℕ → Invalid → List ℕ
invalid_words name x = place_words name x.place ++ (codes ": V" ++ decimal x.rule)

-- the operands there have no registers
abbrev pub unassignable_words : List ℕ → Place → List ℕ
unassignable_words name p = place_words name p ++ codes ": no assignment"
