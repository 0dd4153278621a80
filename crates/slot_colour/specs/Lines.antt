-- The lines of the `stack` key that declare frame objects.
use Rattle.std.specs.Prelude.{ℕ, Bool, true, false, cond, List, [], ◌∷◌, ◌++◌, Option, Some, None, codes, is_some}
use Rattle.std.specs.Borrow.{Bor}
use Rattle.target_base.specs.Names.{is_letter}
use Rattle.mir_lines.specs.Bytes.{behind_word}
use Rattle.mir_read.specs.Keys.{declared_number, declared_frame}
use Rattle.mir_text.specs.Document.{lines}
use Rattle.slot_colour.specs.declared.lines.FrameLine.{FrameLine}

-- a letter begins a key
abbrev pub begins_key : List ℕ → Bool
begins_key [] = false
begins_key (b ∷ bs) = is_letter b

-- the line is one of the `stack` key: it begins this key, or it goes on with it
abbrev pub is_of_stack : Bool → List ℕ → Bool
is_of_stack before line = cond (begins_key line) (is_some (behind_word (codes "stack:") line)) before

-- a number that was read, with the text behind it
abbrev pub declared_of : ℕ × Bor (List ℕ) → FrameLine
declared_of p = record { number = p.0; text = p.1.now }

abbrev pub declared_as : Option (ℕ × Bool) → Option (List ℕ × List ℕ) → Option FrameLine
declared_as (Some object) (Some parts) = Some (record { number = object.0; text = parts.1 })
declared_as _ _ = None

-- the frame object that a line of the key declares, and what stands behind its number
abbrev pub declared_by : Bool → List ℕ → Option FrameLine
declared_by is_stack line = cond is_stack (declared_as (declared_frame line) (declared_number line)) None

abbrev pub with_declared : Option FrameLine → List FrameLine → List FrameLine
with_declared None ds = ds
with_declared (Some d) ds = d ∷ ds

-- all that lines declare
abbrev pub declared_from : Bool → List (List ℕ) → List FrameLine
declared_from before [] = []
declared_from before (l ∷ ls) =
    let now = is_of_stack before l in
    with_declared (declared_by now l) (declared_from now ls)

-- all that the key lines of a function declare
abbrev pub declared_in : List ℕ → List FrameLine
declared_in head = declared_from false (lines head)

abbrev pub is_gone : (ℕ → Bool) → Option FrameLine → Bool
is_gone gone None = false
is_gone gone (Some d) = gone d.number

abbrev pub unless : Bool → List ℕ → List ℕ
unless true line = []
unless false line = line ++ codes "\n"

-- the lines without those that declare objects which are gone
abbrev pub kept_from : (ℕ → Bool) → Bool → List (List ℕ) → List ℕ
kept_from gone before [] = []
kept_from gone before (l ∷ ls) =
    let now = is_of_stack before l in
    unless (is_gone gone (declared_by now l)) l ++ kept_from gone now ls

-- key lines without those
abbrev pub kept_in : (ℕ → Bool) → List ℕ → List ℕ
kept_in gone head = kept_from gone false (lines head)
