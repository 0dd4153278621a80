-- What a command writes of a file, and how it ends, devices and memory left aside.
use Rattle.std.specs.Prelude.{◌≡◌, ◌⊎◌, ℕ, ◌<◌, true, List, [], ◌∷◌, ◌++◌, length, Option, Some, false}
use Rattle.std.specs.List.{flat_map}
use Rattle.target_base.specs.declared.types.Target.{Target}
use Rattle.ra_top.specs.Devices.Device.{WritesPart, WritesAll}
use Rattle.ra_top.specs.Devices.Pieces.{is_whole, NoneWhole, held_most}
use Rattle.ra_top.specs.declared.commands.answer.Job.{Job}
use Rattle.ra_top.specs.declared.commands.spot.DocStart.{DocStart}
use Rattle.ra_top.specs.declared.commands.status.Status.{Status}
use Rattle.ra_top.specs.declared.commands.status.Status.TheVariants as status
use Rattle.ra_top.specs.Commands.Spot.{first_spot, after}
use Rattle.ra_top.specs.Commands.Answer.{IsText, IsLast, Refuses}
use Rattle.ra_top.specs.Commands.Documents.{end_status, IsEndText}

-- a text is the first piece, or its first 4,194,305 bytes, of a file of which the rest follows on it
pub record IsHeld (text rest : List ℕ) : Type 0 where
  pub filled : 0 < length text
  pub none : NoneWhole text
  pub end : (is_whole text ≡ true) ⊎ ((length text ≡ held_most) ⊎ (rest ≡ []))

-- the text begins with a piece that isn't whole yet, and the rest is left
pub record IsUnfinished (text : List ℕ) (left : Option (List ℕ)) : Type 0 where
  pub piece : List ℕ
  pub rest : List ℕ
  pub cut : text ≡ piece ++ rest
  pub left_is : left ≡ Some rest
  pub none : NoneWhole piece
  pub open_yet : is_whole piece ≡ false

-- a piece, and the text that is written for it
pub record Treatment : Type 0 where
  pub piece : List ℕ
  pub text : List ℕ

-- the texts of pieces, one after the other
abbrev pub output : List Treatment → List ℕ
output pieces = flat_map (λ p. p.text) pieces

-- from a place in a file on, of which this is left, these pieces are treated in turn, and then the rest
-- meets a fact
abbrev pub Treated : Job → Target → DocStart → List ℕ → List Treatment → (DocStart → List ℕ → Type 0) → Type 0
Treated job t spot text [] Then = Then spot text
Treated job t spot text (p ∷ ps) Then =
    (rest : List ℕ) × (text ≡ p.piece ++ rest) × IsHeld p.piece rest × IsText job t spot p.piece p.text × Treated job t (after spot p.piece) rest ps Then

-- the next piece is refused
pub record Stops (job : Job) (t : Target) (spot : DocStart) (text : List ℕ) (s : Status) (detail : List ℕ) : Type 0 where
  pub piece : List ℕ
  pub rest : List ℕ
  pub cut : text ≡ piece ++ rest
  pub held : IsHeld piece rest
  pub refused : Refuses job t spot piece s detail

-- a text is due for the next piece, and the run ends with it
pub record EndsWith (job : Job) (t : Target) (out : List ℕ) (spot : DocStart) (text : List ℕ) : Type 0 where
  pub piece : List ℕ
  pub rest : List ℕ
  pub cut : text ≡ piece ++ rest
  pub held : IsHeld piece rest
  pub last : IsLast job t spot piece out

-- nothing is left, and a text is due at the end
pub record IsOver (job : Job) (out : List ℕ) (s : Status) (text : List ℕ) : Type 0 where
  pub nothing : text ≡ []
  pub ends : s ≡ end_status job
  pub last : IsEndText job out

-- A run ends with a last text: nothing is left, the job ends with a document, or the next piece is refused.
abbrev pub AtEnd : Job → Target → List ℕ → Status → List ℕ → DocStart → List ℕ → Type 0
AtEnd job t out status.Done detail spot text = IsOver job out status.Done text ⊎ EndsWith job t out spot text
AtEnd job t out status.Usage detail spot text = IsOver job out status.Usage text
AtEnd job t out s detail spot text = Stops job t spot text s detail × (out ≡ [])

-- the status, the detail of its line, and the output that are due for a file
pub record Due (job : Job) (t : Target) (file out : List ℕ) (s : Status) (detail : List ℕ) : Type 0 where
  pub pieces : List Treatment
  pub last : List ℕ
  pub treated : Treated job t first_spot file pieces (AtEnd job t last s detail)
  pub written : out ≡ output pieces ++ last

-- a text was written, or a write failed
abbrev pub IsWrittenEnd : List ℕ → Option (List ℕ) → Option (List ℕ) → Status → Type 0
IsWrittenEnd text old new status.Done = WritesAll old new text
IsWrittenEnd text old new status.WriteFault = WritesPart old new text
IsWrittenEnd text old new s = ⊥
