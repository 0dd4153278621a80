-- What single steps of a reading leave: words of the code's own clauses. What the top call promises (Told) uses none of them.
use Rattle.std.specs.Prelude.{◌≡◌, ◌≤◌, ◌<◌, ◌+◌, ℕ, List, [], ◌++◌, Option, Some, None, Result, Ok, Err, IfSome, map, length, drop}
use Rattle.target_base.specs.declared.types.Target.{Target}
use Rattle.mir_func.specs.Value.{Function}
use Rattle.mir_func.specs.declared.func.Valid.{Valid}
use Rattle.mir_text.specs.declared.doc.Doc.{Doc}
use Rattle.pipeline.specs.Guarded.Function.{IsTaken}
use Rattle.ra_top.specs.Devices.Device.{Rose}
use Rattle.ra_top.specs.declared.commands.refusal.Refusal.{Refusal}
use Rattle.ra_top.specs.declared.commands.refusal.Refusal.TheVariants as refusals
use Rattle.ra_top.specs.declared.commands.spot.DocStart.{DocStart}
use Rattle.ra_top.specs.declared.commands.status.Status.{Status}
use Rattle.ra_top.specs.declared.commands.status.Status.TheVariants as status
use Rattle.ra_top.specs.Commands.Spot.{after, file_most}
use Rattle.ra_top.specs.Commands.Answer.{IsSpelled}
use Rattle.ra_top.specs.Commands.Piece.{IfBy, IsUnspelled}
use Rattle.ra_top.specs.Commands.Pairs.{AreLinesOf, IsCheckText}
use Rattle.ra_top.specs.Due.{IsHeld, IsUnfinished}
use Rattle.ra_top.specs.Checked.{function_of, IfFunction, IsWithin, IsRead}

-- a file couldn't be begun: a call failed, or memory ran out
abbrev pub IfUnbegun : Refusal → Type 0
IfUnbegun (refusals.By s detail) = s ≡ status.ReadFault
IfUnbegun (refusals.Memory e) = Unit {0}

-- the faults of the files that rose for a status
abbrev pub HasReadCause : ℕ → ℕ → Status → List ℕ → Type 0
HasReadCause old new status.ReadFault detail = Rose old new
HasReadCause old new status.WriteFault detail = ⊥
HasReadCause old new s detail = new ≡ old

-- the same of a refusal
abbrev pub HasRefusalCause : ℕ → ℕ → Refusal → Type 0
HasRefusalCause old new (refusals.By s detail) = HasReadCause old new s detail
HasRefusalCause old new (refusals.Memory e) = new ≡ old

-- and of what is read, or refused
abbrev pub HasCauseOf : {A : Type 0} → ℕ → ℕ → Result A Refusal → Type 0
HasCauseOf old new (Ok x) = new ≡ old
HasCauseOf old new (Err r) = HasRefusalCause old new r

-- a document was read, and reading goes on behind it
pub record Behind (t : Target) (spot next : DocStart) (text : List ℕ) (left : Option (List ℕ)) (chunk : List ℕ) (d : Doc) : Type 0 where
  pub piece : List ℕ
  pub rest : List ℕ
  pub left_is : left ≡ Some rest
  pub cut : text ≡ piece ++ (chunk ++ rest)
  pub held : IsHeld piece (chunk ++ rest)
  pub next_is : next ≡ after spot piece
  pub spelled : IsSpelled t spot piece d

-- the next piece spells no document
pub record SpellsNone (t : Target) (spot : DocStart) (text : List ℕ) (s : Status) (detail : List ℕ) : Type 0 where
  pub piece : List ℕ
  pub rest : List ℕ
  pub cut : text ≡ piece ++ rest
  pub held : IsHeld piece rest
  pub unspelled : IsUnspelled t spot piece s detail

-- why there is no next document
abbrev pub IsUnread : Target → DocStart → List ℕ → Option (List ℕ) → Status → List ℕ → Type 0
IsUnread t spot text left status.ReadFault detail = IsUnfinished text left
IsUnread t spot text left s detail = SpellsNone t spot text s detail

-- what comes of reading the next document: it, or that the file ends, or a refusal
abbrev pub AfterReading : Target → DocStart → DocStart → List ℕ → Option (List ℕ) → List ℕ → Result (Option Doc) Refusal → Type 0
AfterReading t spot next text left chunk (Ok (Some d)) = Behind t spot next text left chunk d
AfterReading t spot next text left chunk (Ok None) = text ≡ []
AfterReading t spot next text left chunk (Err r) = IfBy (IsUnread t spot text left) r

-- where a document was read, the spot moved on
abbrev pub MovesOn : DocStart → DocStart → Option Doc → Type 0
MovesOn spot next (Some d) = (spot.offset < next.offset) × (next.line ≤ next.offset + 1) × (next.offset ≤ file_most)
MovesOn spot next None = Unit {0}

-- functions that are valid as a source
abbrev pub plain : List Valid → List Function
plain vs = map (λ v. v.func) vs

-- the function of a document, if it has one, was added to those of a source file
pub record AddsSource (t : Target) (d : Doc) (old new : List Valid) : Type 0 where
  pub taken : IfFunction (IsTaken t) d
  pub added : plain new ≡ plain old ++ function_of d

-- the lines of the functions gs were added, where fs had no partner before, and rest has none then
pub record AddsLines (t : Target) (fs gs rest : List Function) (old new : List ℕ) : Type 0 where
  pub lines : List ℕ
  pub are : AreLinesOf t fs gs lines
  pub added : new ≡ old ++ lines
  pub left : rest ≡ drop (length gs) fs

-- the line of the function of a document, if it has one, was added
pub record AddsLine (t : Target) (d : Doc) (fs rest : List Function) (old new : List ℕ) : Type 0 where
  pub within : IfFunction IsWithin d
  pub lines : AddsLines t fs (function_of d) rest old new

-- a text is all that is said of the functions fs of the source file and of those of the second one, which has these bytes
pub record SaysOfFile (t : Target) (fs : List Function) (file : Option (List ℕ)) (text : List ℕ) : Type 0 where
  pub partners : List Function
  pub read : IfSome file (λ bytes. IsRead IsWithin t bytes partners)
  pub says : IsCheckText t fs partners text

-- how a run ends with a refusal
abbrev pub EndsAs : Refusal → Status → List ℕ → Type 0
EndsAs (refusals.By x words) s detail = (s ≡ x) × (detail ≡ words)
EndsAs (refusals.Memory e) s detail = (s ≡ status.Memory) × (detail ≡ [])
