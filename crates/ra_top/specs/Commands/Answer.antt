-- What a command answers at a piece of a file.
use Rattle.std.specs.Prelude.{◌≡◌, ◌⊎◌, ◌==◌, ℕ, List, Bool, length, Some, None}
use Rattle.std.specs.Fmt.{decimal}
use Rattle.target_base.specs.declared.types.Target.{Target}
use Rattle.mir_text.specs.declared.doc.Doc.{Doc}
use Rattle.mir_text.specs.Document.{Spells, FaultOf}
use Rattle.ra_top.specs.declared.commands.answer.Job.{Job}
use Rattle.ra_top.specs.declared.commands.answer.Answer.{Answer}
use Rattle.ra_top.specs.declared.commands.answer.Answer.TheVariants as answers
use Rattle.ra_top.specs.declared.commands.spot.DocStart.{DocStart}
use Rattle.ra_top.specs.declared.commands.status.Status.{Status}
use Rattle.ra_top.specs.declared.commands.status.Status.TheVariants as status
use Rattle.ra_top.specs.Commands.Spot.{length_fault}
use Rattle.ra_top.specs.Commands.Documents.{IsTextOf, IsLastTextOf, RefusesDoc}

-- the first document of a file, the only one that may be IR
abbrev pub is_first : DocStart → Bool
is_first s = s.offset == 0

-- the piece passes no limit on lengths, and it spells a document
pub record IsSpelled (t : Target) (spot : DocStart) (piece : List ℕ) (d : Doc) : Type 0 where
  pub within : length_fault spot.offset (length piece) ≡ None
  pub spells : Spells t (is_first spot) spot.line piece d

-- a text is due for a piece
pub record IsText (job : Job) (t : Target) (spot : DocStart) (piece text : List ℕ) : Type 0 where
  pub doc : Doc
  pub spelled : IsSpelled t spot piece doc
  pub is : IsTextOf job t doc text

-- a text is due for a piece, and the run ends with it
pub record IsLast (job : Job) (t : Target) (spot : DocStart) (piece text : List ℕ) : Type 0 where
  pub doc : Doc
  pub spelled : IsSpelled t spot piece doc
  pub is : IsLastTextOf job t doc text

-- the document that a piece spells is refused
pub record IsRefusedDoc (job : Job) (t : Target) (spot : DocStart) (piece : List ℕ) (s : Status) (detail : List ℕ) : Type 0 where
  pub doc : Doc
  pub spelled : IsSpelled t spot piece doc
  pub refused : RefusesDoc job t doc s detail

-- A piece is refused: for its length; within the limits on lengths, since it spells no document; else for what its
-- function is.
abbrev pub Refuses : Job → Target → DocStart → List ℕ → Status → List ℕ → Type 0
Refuses job t spot piece (status.Limit limit) detail =
    (length_fault spot.offset (length piece) ≡ Some limit) ⊎ IsRefusedDoc job t spot piece (status.Limit limit) detail
Refuses job t spot piece (status.Text fault) detail =
    (length_fault spot.offset (length piece) ≡ None) × FaultOf t (is_first spot) spot.line piece fault × (detail ≡ decimal fault.line)
Refuses job t spot piece (status.Invalid x) detail = IsRefusedDoc job t spot piece (status.Invalid x) detail
Refuses job t spot piece (status.Unassignable p) detail = IsRefusedDoc job t spot piece (status.Unassignable p) detail
Refuses job t spot piece status.NotYet detail = IsRefusedDoc job t spot piece status.NotYet detail
Refuses job t spot piece s detail = ⊥

abbrev pub IsAnswer : Job → Target → DocStart → List ℕ → Answer → Type 0
IsAnswer job t spot piece (answers.Text text) = IsText job t spot piece text
IsAnswer job t spot piece (answers.Last text) = IsLast job t spot piece text
IsAnswer job t spot piece (answers.Refused s detail) = Refuses job t spot piece s detail
