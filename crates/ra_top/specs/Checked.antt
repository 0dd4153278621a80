-- What `check` makes of two files.
use Rattle.std.specs.Prelude.{◌≡◌, ◌⊎◌, ℕ, List, [], ◌∷◌, ◌++◌, Option, Some, None, IfSome}
use Rattle.std.specs.List.{flat_map}
use Rattle.target_base.specs.declared.types.Target.{Target}
use Rattle.mir_func.specs.Value.{Function}
use Rattle.mir_meaning.specs.declared.Form.TheVariants as forms
use Rattle.mir_text.specs.declared.doc.Doc.{Doc}
use Rattle.mir_text.specs.declared.doc.Doc.TheVariants as docs
use Rattle.pipeline.specs.Guarded.Limits.{passed_limit}
use Rattle.pipeline.specs.Guarded.Function.{IsTaken}
use Rattle.ra_top.specs.declared.commands.spot.DocStart.{DocStart}
use Rattle.ra_top.specs.declared.commands.status.Status.{Status}
use Rattle.ra_top.specs.declared.commands.status.Status.TheVariants as status
use Rattle.ra_top.specs.Commands.Spot.{first_spot, after}
use Rattle.ra_top.specs.Commands.Answer.{IsSpelled}
use Rattle.ra_top.specs.Commands.Piece.{IsUnspelled}
use Rattle.ra_top.specs.Commands.Documents.{VerifyRefuses}
use Rattle.ra_top.specs.Commands.Pairs.{IsCheckText}
use Rattle.ra_top.specs.Due.{IsHeld, IsUnfinished, IsWrittenEnd}

-- the function of a document, if it has one
abbrev pub function_of : Doc → List Function
function_of (docs.Function before f) = f ∷ []
function_of d = []

-- the functions of documents, in order
abbrev pub functions_of : List Doc → List Function
functions_of ds = flat_map function_of ds

-- the function of a document, if it has one, meets a fact
abbrev pub IfFunction : (Function → Type 0) → Doc → Type 0
IfFunction P (docs.Function before f) = P f
IfFunction P d = Unit {0}

-- from a place in a file on, of which this is left, the next pieces spell these documents, whose functions meet a fact,
-- and then the rest meets another
abbrev pub Reads : (Function → Type 0) → Target → DocStart → List ℕ → List Doc → (DocStart → List ℕ → Type 0) → Type 0
Reads P t spot text [] Then = Then spot text
Reads P t spot text (d ∷ ds) Then =
    (piece : List ℕ) × (rest : List ℕ) × (text ≡ piece ++ rest) × IsHeld piece rest × IsSpelled t spot piece d × IfFunction P d × Reads P t (after spot piece) rest ds Then

-- the file is read to its end: these are its functions, each of which meets a fact
pub record IsRead (P : Function → Type 0) (t : Target) (file : List ℕ) (fs : List Function) : Type 0 where
  pub documents : List Doc
  pub reads : Reads P t first_spot file documents (λ spot text. text ≡ [])
  pub functions : fs ≡ functions_of documents

-- why a function of the source file is refused: as by `verify source`
abbrev pub SourceRefuses : Target → Function → Status → List ℕ → Type 0
SourceRefuses t f s detail = VerifyRefuses t forms.Source f s detail

-- a function of the second file lies within the limits of blocks, instructions and virtual registers
abbrev pub IsWithin : Function → Type 0
IsWithin g = passed_limit g ≡ None

-- why a function of the second file is refused: a limit that it passes
abbrev pub LimitRefuses : Function → Status → List ℕ → Type 0
LimitRefuses g (status.Limit l) detail = passed_limit g ≡ Some l
LimitRefuses g s detail = ⊥

-- a document's function is refused
abbrev pub RefusesFunction : (Function → Status → List ℕ → Type 0) → Doc → Status → List ℕ → Type 0
RefusesFunction R (docs.Function before f) s detail = R f s detail
RefusesFunction R d s detail = ⊥

-- a piece spells a document whose function is refused
pub record IsSpelledAndRefused (R : Function → Status → List ℕ → Type 0) (t : Target) (spot : DocStart) (piece : List ℕ) (s : Status) (detail : List ℕ) : Type 0 where
  pub doc : Doc
  pub spelled : IsSpelled t spot piece doc
  pub refused : RefusesFunction R doc s detail

-- the next piece is refused: for its length, since it spells no document, or for its function
pub record IsRefused (R : Function → Status → List ℕ → Type 0) (t : Target) (spot : DocStart) (text : List ℕ) (s : Status) (detail : List ℕ) : Type 0 where
  pub piece : List ℕ
  pub rest : List ℕ
  pub cut : text ≡ piece ++ rest
  pub held : IsHeld piece rest
  pub refused : IsUnspelled t spot piece s detail ⊎ IsSpelledAndRefused R t spot piece s detail

-- Reading ends at a place before the file does: a read failed, so that this is left; memory ran out; or the next piece is
-- refused.
abbrev pub Breaks : (Function → Status → List ℕ → Type 0) → Target → Option (List ℕ) → Status → List ℕ → DocStart → List ℕ → Type 0
Breaks R t left status.ReadFault detail spot text = IsUnfinished text left
Breaks R t left status.Memory detail spot text = Unit {0}
Breaks R t left s detail spot text = IsRefused R t spot text s detail

-- the reading of a file ends before it does
pub record IsBroken (P : Function → Type 0) (R : Function → Status → List ℕ → Type 0) (t : Target) (file : List ℕ) (left : Option (List ℕ)) (s : Status) (detail : List ℕ) : Type 0 where
  pub documents : List Doc
  pub reads : Reads P t first_spot file documents (Breaks R t left s detail)

-- the reading of the source file ends before it does
abbrev pub IsSourceBroken : Target → List ℕ → Option (List ℕ) → Status → List ℕ → Type 0
IsSourceBroken t file left s detail = IsBroken (IsTaken t) (SourceRefuses t) t file left s detail

-- the same of the second file
abbrev pub IsAllocatedBroken : Target → List ℕ → Option (List ℕ) → Status → List ℕ → Type 0
IsAllocatedBroken t file left s detail = IsBroken IsWithin LimitRefuses t file left s detail

-- The source file is refused, or reading it ends, and nothing is written.
pub record EndsAtSource (t : Target) (source : List ℕ) (contents : List ℕ → Option (List ℕ)) (left old new : Option (List ℕ)) (s : Status) (file detail : List ℕ) : Type 0 where
  pub broken : IfSome (contents source) (λ bytes. IsSourceBroken t bytes left s detail)
  pub file_is : file ≡ source
  pub unwritten : new ≡ old

-- The source file is read to its end; then the second file is refused, or reading it ends, and nothing is written.
pub record EndsAtAllocated (t : Target) (source allocated : List ℕ) (contents : List ℕ → Option (List ℕ)) (left old new : Option (List ℕ)) (s : Status) (file detail : List ℕ) : Type 0 where
  pub sources : List Function
  pub read : IfSome (contents source) (λ bytes. IsRead (IsTaken t) t bytes sources)
  pub broken : IfSome (contents allocated) (λ bytes. IsAllocatedBroken t bytes left s detail)
  pub file_is : file ≡ allocated
  pub unwritten : new ≡ old

-- Both files are read to their ends, and what is said of their functions is written, or a first part of it where a write
-- fails.
pub record EndsBehind (t : Target) (source allocated : List ℕ) (contents : List ℕ → Option (List ℕ)) (old new : Option (List ℕ)) (s : Status) : Type 0 where
  pub sources : List Function
  pub partners : List Function
  pub text : List ℕ
  pub read : IfSome (contents source) (λ bytes. IsRead (IsTaken t) t bytes sources)
  pub read_behind : IfSome (contents allocated) (λ bytes. IsRead IsWithin t bytes partners)
  pub says : IsCheckText t sources partners text
  pub written : IsWrittenEnd text old new s

-- what is done with the two files over a target
pub data ChecksFiles (t : Target) (source allocated : List ℕ) (contents : List ℕ → Option (List ℕ)) (left old new : Option (List ℕ)) (s : Status) (file detail : List ℕ) : Type 0 where
  at_source : EndsAtSource t source contents left old new s file detail → ChecksFiles t source allocated contents left old new s file detail
  at_allocated : EndsAtAllocated t source allocated contents left old new s file detail → ChecksFiles t source allocated contents left old new s file detail
  behind : EndsBehind t source allocated contents old new s → ChecksFiles t source allocated contents left old new s file detail
