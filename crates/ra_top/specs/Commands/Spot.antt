-- Where a document stands in its file, and what it may be long.
use Rattle.std.specs.Prelude.{ℕ, ◌==◌, ◌+◌, List, length, count_by, min, nat_lt, if◌then◌else◌, Option, Some, None}
use Rattle.ra_top.specs.declared.commands.spot.DocStart.{DocStart}
use Rattle.pipeline.specs.declared.guarded.stop.LimitName.{LimitName}
use Rattle.pipeline.specs.declared.guarded.stop.LimitName.TheVariants as limits

abbrev pub first_spot : DocStart
first_spot = record { line = 1; offset = 0 }

abbrev pub newlines : List ℕ → ℕ
newlines text = count_by (λ b. b == 10) text

-- where the document behind a piece begins
abbrev pub after : DocStart → List ℕ → DocStart
after s piece = record { line = s.line + newlines piece; offset = s.offset + length piece }

abbrev pub file_most : ℕ
file_most = 268435456

abbrev pub document_most : ℕ
document_most = 4194304

-- the limit that a document of n bytes behind so many others passes: of the file, the bytes through the
-- document's end count, or through its first 4,194,305 bytes
abbrev pub length_fault : ℕ → ℕ → Option LimitName
length_fault offset n =
    if nat_lt file_most (offset + min n (document_most + 1)) then Some limits.File
    else (if nat_lt document_most n then Some limits.Document else None)
