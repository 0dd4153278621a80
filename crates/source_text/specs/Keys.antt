-- Where the key lines of a function have lines for new spill slots.
use Rattle.std.specs.Prelude.{ℕ, ◌+◌, Bool, false, cond, ◌&&◌, nat_eq, List, [], ◌∷◌, ◌++◌, length, Option, Some, None, option_and_then, is_some, codes}
use Rattle.target_base.specs.Names.{is_letter}
use Rattle.mir_lines.specs.Bytes.{skip, skip_back, is_word, behind_word, before_word}
use Rattle.mir_text.specs.Document.{lines}
use Rattle.source_text.specs.declared.keys.Parts.{Parts}

-- a letter begins a key; any other line belongs to the key before it
abbrev pub begins_key : List ℕ → Bool
begins_key [] = false
begins_key (b ∷ bs) = is_letter b

abbrev pub begins_stack : List ℕ → Bool
begins_stack line = is_some (behind_word (codes "stack:") line)

-- the first line of the key `stack` without `[]`, which says that it has no lines
abbrev pub opened_with : List ℕ → Option (List ℕ) → List ℕ
opened_with line None = line
opened_with line (Some value) = cond (is_word (skip_back (skip value)) (codes "[]")) (codes "stack:") line

abbrev pub opened : List ℕ → List ℕ
opened line = opened_with line (behind_word (codes "stack:") line)

-- the lines that belong to the key before them, and the lines from the next key on
abbrev pub before_key : List (List ℕ) → List (List ℕ)
before_key [] = []
before_key (l ∷ ls) = cond (begins_key l) [] (l ∷ before_key ls)

abbrev pub from_key : List (List ℕ) → List (List ℕ)
from_key [] = []
from_key (l ∷ ls) = cond (begins_key l) (l ∷ ls) (from_key ls)

-- how often the key `stack` stands among lines
abbrev pub stack_count : List (List ℕ) → ℕ
stack_count [] = 0
stack_count (l ∷ ls) = cond (begins_stack l) (stack_count ls + 1) (stack_count ls)

-- the line begins the last key `stack`, these lines stand behind it
abbrev pub begins_last : List ℕ → List (List ℕ) → Bool
begins_last l ls = begins_stack l && nat_eq (stack_count ls) 0

-- Where the key `stack` stands, new lines go to its end, or to the end of the last one: the lines above them, and below.
abbrev pub above_in_stack : List (List ℕ) → List (List ℕ)
above_in_stack [] = []
above_in_stack (l ∷ ls) = cond (begins_last l ls) (opened l ∷ before_key ls) (l ∷ above_in_stack ls)

abbrev pub below_in_stack : List (List ℕ) → List (List ℕ)
below_in_stack [] = []
below_in_stack (l ∷ ls) = cond (begins_last l ls) (from_key ls) (below_in_stack ls)

-- Where it doesn't, the key is put before the body line, which is the last.
abbrev pub above_body : List (List ℕ) → List (List ℕ)
above_body [] = []
above_body (l ∷ ls) = cond (nat_eq (length ls) 0) (codes "stack:" ∷ []) (l ∷ above_body ls)

abbrev pub below_body : List (List ℕ) → List (List ℕ)
below_body [] = []
below_body (l ∷ ls) = cond (nat_eq (length ls) 0) (l ∷ []) (below_body ls)

-- lines as a text, each ended by a newline
abbrev pub text_of : List (List ℕ) → List ℕ
text_of [] = []
text_of (l ∷ ls) = (l ++ codes "\n") ++ text_of ls

-- key lines in two parts: what stands above the lines of new slots, and below them
abbrev pub parts_of : List (List ℕ) → Parts
parts_of ls =
    cond (nat_eq (stack_count ls) 0)
    (record { above = text_of (above_body ls); below = text_of (below_body ls) })
    (record { above = text_of (above_in_stack ls); below = text_of (below_in_stack ls) })

-- what stands between the two parts
abbrev pub between : Parts → List ℕ → Option (List ℕ)
between p text = option_and_then (before_word p.below) (behind_word p.above text)

-- what key lines have besides those of the source where lines of new slots go; None where the others aren't the source's
abbrev pub added : List ℕ → List ℕ → Option (List ℕ)
added source head = between (parts_of (lines source)) head
