-- What single steps of a run leave: words of the code's own clauses. What the top call promises (Told) uses none of them.
use Rattle.std.specs.Prelude.{◌≡◌, ◌<◌, ◌≤◌, ◌+◌, ℕ, List, [], ◌++◌, Option, Some, IfSome, Result, Ok, Err}
use Rattle.std.specs.Fmt.{decimal}
use Rattle.target_base.specs.declared.types.Target.{Target}
use Rattle.target_desc.specs.declared.fault.TargetFault.{TargetFault}
use Rattle.mir_text.specs.declared.doc.Doc.{Doc}
use Rattle.watchers.specs.declared.steps.Step.{Step as RunStep}
use Rattle.pipeline.specs.Guarded.Told.{ToldPart}
use Rattle.ra_top.specs.Devices.Device.{WritesPart, WritesAll}
use Rattle.ra_top.specs.declared.commands.answer.Job.{Job}
use Rattle.ra_top.specs.declared.ending.ExitReport.{ExitReport}
use Rattle.ra_top.specs.declared.ending.StreamStep.{StreamStep}
use Rattle.ra_top.specs.declared.ending.StreamStep.TheVariants as steps
use Rattle.ra_top.specs.declared.commands.spot.DocStart.{DocStart}
use Rattle.ra_top.specs.declared.commands.status.Status.{Status}
use Rattle.ra_top.specs.declared.commands.status.Status.TheVariants as status
use Rattle.ra_top.specs.Commands.Spot.{after, file_most}
use Rattle.ra_top.specs.Commands.Answer.{IsSpelled, IsText, IsLast, Refuses}
use Rattle.ra_top.specs.Commands.Told.{ToldDoc}
use Rattle.ra_top.specs.Commands.Documents.{IsEndText, end_status}
use Rattle.ra_top.specs.Due.{IsHeld, IsUnfinished, AtEnd}
use Rattle.ra_top.specs.Reading.{Behind}
use Rattle.ra_top.specs.Told.{HasStatusCause, IsDueText, IsNextText}
use Rattle.ra_top.specs.Watched.{IsUndone}

-- of a document: its text is written
pub record IsWritten (job : Job) (t : Target) (spot : DocStart) (piece : List ℕ) (old new : Option (List ℕ)) : Type 0 where
  pub text : List ℕ
  pub is : IsText job t spot piece text
  pub written : WritesAll old new text

-- of the document that ends the run: its text is written
pub record IsLastWritten (job : Job) (t : Target) (spot : DocStart) (piece : List ℕ) (old new : Option (List ℕ)) : Type 0 where
  pub text : List ℕ
  pub is : IsLast job t spot piece text
  pub written : WritesAll old new text

-- of a document: a first part of its text is written
pub record IsPartWritten (job : Job) (t : Target) (spot : DocStart) (piece : List ℕ) (old new : Option (List ℕ)) : Type 0 where
  pub text : List ℕ
  pub is : IsDueText job t spot piece text
  pub written : WritesPart old new text

-- how a run ends at a piece that was read
abbrev pub EndsAtPiece : Job → Target → DocStart → List ℕ → Option (List ℕ) → Option (List ℕ) → Status → List ℕ → Type 0
EndsAtPiece job t spot piece old new status.Done detail = IsLastWritten job t spot piece old new
EndsAtPiece job t spot piece old new status.ReadFault detail = ⊥
EndsAtPiece job t spot piece old new status.WriteFault detail = IsPartWritten job t spot piece old new
EndsAtPiece job t spot piece old new status.Memory detail = new ≡ old
EndsAtPiece job t spot piece old new s detail = Refuses job t spot piece s detail × (new ≡ old)

-- what treating a piece that was read leads to
abbrev pub AfterPiece : Job → Target → DocStart → List ℕ → Option (List ℕ) → Option (List ℕ) → StreamStep → Type 0
AfterPiece job t spot piece old new steps.More = IsWritten job t spot piece old new
AfterPiece job t spot piece old new (steps.End e) = EndsAtPiece job t spot piece old new e.status e.detail

-- how a run ends from a place in a file on
abbrev pub EndsHere : Job → Target → DocStart → List ℕ → Option (List ℕ) → Option (List ℕ) → Option (List ℕ) → Status → List ℕ → Type 0
EndsHere job t spot text left old new status.ReadFault detail = IsUnfinished text left × (new ≡ old)
EndsHere job t spot text left old new status.WriteFault detail = (out : List ℕ) × IsNextText job t out spot text × WritesPart old new out
EndsHere job t spot text left old new status.Memory detail = new ≡ old
EndsHere job t spot text left old new s detail = (out : List ℕ) × AtEnd job t out s detail spot text × WritesAll old new out

-- the text that is due at the end of a file is written
abbrev pub IsEnded : Job → Option (List ℕ) → Option (List ℕ) → Type 0
IsEnded job old new = (out : List ℕ) × IsEndText job out × WritesAll old new out

-- how a run ends where its file does
abbrev pub Finishes : Job → Option (List ℕ) → Option (List ℕ) → Status → Type 0
Finishes job old new status.Done = (status.Done ≡ end_status job) × IsEnded job old new
Finishes job old new status.Usage = (status.Usage ≡ end_status job) × IsEnded job old new
Finishes job old new status.WriteFault = (out : List ℕ) × IsEndText job out × WritesPart old new out
Finishes job old new status.Memory = new ≡ old
Finishes job old new s = ⊥

abbrev pub IsFinished : Job → Option (List ℕ) → Option (List ℕ) → StreamStep → Type 0
IsFinished job old new steps.More = ⊥
IsFinished job old new (steps.End e) = Finishes job old new e.status

-- the run goes on behind a piece
pub record GoesOn (job : Job) (t : Target) (spot next : DocStart) (text : List ℕ) (left : Option (List ℕ)) (chunk : List ℕ) (old new : Option (List ℕ)) : Type 0 where
  pub piece : List ℕ
  pub rest : List ℕ
  pub left_is : left ≡ Some rest
  pub cut : text ≡ piece ++ (chunk ++ rest)
  pub held : IsHeld piece (chunk ++ rest)
  pub next_is : next ≡ after spot piece
  pub out : IsWritten job t spot piece old new

abbrev pub AfterDocument : Job → Target → DocStart → DocStart → List ℕ → Option (List ℕ) → List ℕ → Option (List ℕ) → Option (List ℕ) → StreamStep → Type 0
AfterDocument job t spot next text left chunk old new steps.More = GoesOn job t spot next text left chunk old new
AfterDocument job t spot next text left chunk old new (steps.End e) = EndsHere job t spot text left old new e.status e.detail

-- what `alloc` and `trace` told the watchers of a piece that was read; n and m are the number of the next function before
-- and after
abbrev pub ToldAtPiece : {W : Type 0} → (W → RunStep → W) → Target → DocStart → List ℕ → ℕ → ℕ → List W → List W → StreamStep → Type 0
ToldAtPiece next t spot piece n m old new steps.More = (d : Doc) × IsSpelled t spot piece d × ToldDoc next d n m old new
ToldAtPiece next t spot piece n m old new (steps.End e) = IsUndone e.status × ToldPart next old new

-- what they told where a run ends with a status: with Done nothing, and nothing of the file is left
abbrev pub ToldAtEnd : {W : Type 0} → (W → RunStep → W) → Option (List ℕ) → List ℕ → List W → List W → Status → Type 0
ToldAtEnd next left chunk old new status.Done = IfSome left (λ l. chunk ++ l ≡ []) × (new ≡ old)
ToldAtEnd next left chunk old new s = ToldPart next old new

-- what they told of the next document, or where there is none; what is left of the file goes on from a chunk, before and
-- after
abbrev pub ToldStep : {W : Type 0} → (W → RunStep → W) → Target → DocStart → DocStart → Option (List ℕ) → List ℕ → Option (List ℕ) → List ℕ → ℕ → ℕ → List W → List W → StreamStep → Type 0
ToldStep next t spot behind left chunk now_left now_chunk n m old new steps.More =
    (d : Doc) × IfSome left (λ l. Behind t spot behind (chunk ++ l) now_left now_chunk d) × ToldDoc next d n m old new
ToldStep next t spot behind left chunk now_left now_chunk n m old new (steps.End e) = ToldAtEnd next left chunk old new e.status

-- the faults that rose in a step
abbrev pub HasStepCause : StreamStep → ℕ → ℕ → ℕ → ℕ → Type 0
HasStepCause steps.More old new out_old out_new = (new ≡ old) × (out_new ≡ out_old)
HasStepCause (steps.End e) old new out_old out_new = HasStatusCause e.status old new out_old out_new

-- where a step goes on, the spot stands behind the piece
abbrev pub Moves : DocStart → List ℕ → DocStart → StreamStep → Type 0
Moves spot piece next steps.More = (next ≡ after spot piece) × (next.line ≤ next.offset + 1) × (next.offset ≤ file_most)
Moves spot piece next (steps.End e) = Unit {0}

-- where a document is treated, the spot moves on
abbrev pub Advances : DocStart → DocStart → StreamStep → Type 0
Advances spot next steps.More = (spot.offset < next.offset) × (next.line ≤ next.offset + 1) × (next.offset ≤ file_most)
Advances spot next (steps.End e) = Unit {0}

-- the status says of no device that its call failed
abbrev pub NamesNoDevice : Status → Type 0
NamesNoDevice status.ReadFault = ⊥
NamesNoDevice status.WriteFault = ⊥
NamesNoDevice s = Unit {0}

-- an ending for the fault of a target file, or for want of memory
abbrev pub IsFaultOrMemory : TargetFault → Status → List ℕ → Type 0
IsFaultOrMemory fault (status.Target f) detail = (f ≡ fault) × (detail ≡ decimal fault.line)
IsFaultOrMemory fault status.Memory detail = Unit {0}
IsFaultOrMemory fault s detail = ⊥

-- the faults that rose where a target file was read
abbrev pub HasTargetCause : Result Target ExitReport → ℕ → ℕ → Type 0
HasTargetCause (Ok t) old new = new ≡ old
HasTargetCause (Err e) old new = HasStatusCause e.status old new 0 0

-- an ending names no device
abbrev pub NamesNone : Result Target ExitReport → Type 0
NamesNone (Ok t) = Unit {0}
NamesNone (Err e) = NamesNoDevice e.status
