-- What the bytes of a target file spell, or the first line that can't follow those before it.
use Rattle.std.specs.Prelude.{◌≡◌, ℕ, List, [], ◌∷◌, ◌+◌, Option, Some, None, Result, Ok, Err, if◌then◌else◌}
use Rattle.target_desc.specs.declared.fault.TargetKind.{TargetKind}
use Rattle.target_desc.specs.declared.fault.TargetKind.TheVariants as kinds
use Rattle.target_desc.specs.declared.fault.TargetFault.{TargetFault}
use Rattle.target_desc.specs.declared.fault.TargetStop.{TargetStop}
use Rattle.target_desc.specs.declared.fault.TargetStop.TheVariants as stops
use Rattle.target_desc.specs.declared.fault.TargetLineStop.{TargetLineStop}
use Rattle.target_desc.specs.declared.fault.TargetLineStop.TheVariants as line_stops
use Rattle.target_desc.specs.declared.raw.RawLine.{RawLine}
use Rattle.target_desc.specs.declared.draft.Draft.{Draft}
use Rattle.target_desc.specs.declared.draft.Line.{Line}
use Rattle.target_desc.specs.Text.{lines, words, is_comment}
use Rattle.target_desc.specs.Forms.{raw_line}
use Rattle.target_desc.specs.Drafts.{empty_draft, names_of}
use Rattle.target_desc.specs.Resolving.{resolved, is_new}
use Rattle.target_desc.specs.Standing.{stands}
use Rattle.target_desc.specs.Adding.{added}
use Rattle.target_desc.specs.Ending.{Parts, ended}

-- the third test
abbrev pub ruled : Draft → Line → Result Draft TargetKind
ruled d l = if stands d l then Ok (added d l) else Err kinds.Rule

-- the second test: each name is declared, and the new one isn't
abbrev pub named : Draft → Option Line → Result Draft TargetKind
named d None = Err kinds.Name
named d (Some l) = if is_new (names_of d) l then ruled d l else Err kinds.Name

-- the first test
abbrev pub laid_out : Draft → Option RawLine → Result Draft TargetKind
laid_out d None = Err kinds.Layout
laid_out d (Some raw) = named d (resolved (names_of d) raw)

-- a line without a word says nothing
abbrev pub worded : Draft → List (List ℕ) → Result Draft TargetKind
worded d [] = Ok d
worded d (w ∷ ws) = laid_out d (raw_line w ws)

-- what a line makes of the target so far, or the first test that fails there
unfoldable pub line_after : Draft → List ℕ → Result Draft TargetKind
line_after d line = if is_comment line then Ok d else worded d (words line)

abbrev pub at_end : ℕ → Option Parts → Result Parts TargetFault
at_end n None = Err (record { line = n; kind = kinds.End })
at_end n (Some p) = Ok p

-- goes on behind a line that stands
abbrev pub then_at : {X Y : Type 0} → ℕ → Result X TargetKind → (X → Result Y TargetFault) → Result Y TargetFault
then_at n (Ok x) f = f x
then_at n (Err kind) f = Err (record { line = n; kind = kind })

-- what lines spell behind those of the draft, the next of which has this number
unfoldable pub lines_after : ℕ → Draft → List (List ℕ) → Result Parts TargetFault
lines_after n d [] = at_end n (ended d)
lines_after n d (line ∷ more) = then_at n (line_after d line) (λ after. lines_after (n + 1) after more)

-- what a text spells
abbrev pub spelled : List ℕ → Result Parts TargetFault
spelled text = lines_after 1 empty_draft (lines text)

-- what a function answers for a line, unless memory ran out
abbrev pub FailsLine : {Y : Type 0} → TargetLineStop → Result Y TargetKind → Type 0
FailsLine (line_stops.Memory e) read = Unit {0}
FailsLine (line_stops.Fault kind) read = read ≡ Err kind

abbrev pub GivesLine : {X Y : Type 0} → (X → Y) → Result X TargetLineStop → Result Y TargetKind → Type 0
GivesLine view (Ok x) read = read ≡ Ok (view x)
GivesLine view (Err e) read = FailsLine e read

abbrev pub stop_at : ℕ → TargetLineStop → TargetStop
stop_at n (line_stops.Fault kind) = stops.Fault (record { line = n; kind = kind })
stop_at n (line_stops.Memory e) = stops.Memory e

-- what a function answers for a text, unless memory ran out
abbrev pub Fails : {Y : Type 0} → TargetStop → Result Y TargetFault → Type 0
Fails (stops.Memory e) read = Unit {0}
Fails (stops.Fault fault) read = read ≡ Err fault

abbrev pub Gives : {X Y : Type 0} → (X → Y) → Result X TargetStop → Result Y TargetFault → Type 0
Gives view (Ok x) read = read ≡ Ok (view x)
Gives view (Err e) read = Fails e read
