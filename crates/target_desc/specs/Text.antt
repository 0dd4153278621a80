-- Lines of a text, words of a line, and numbers.
use Rattle.std.specs.Prelude.{ℕ, Bool, true, false, List, [], ◌∷◌, Option, Some, None, ◌==◌, ◌&&◌, ◌+◌, ◌*◌, ◌-◌, if◌then◌else◌, filter, min}
use Rattle.std.specs.Borrow.{Bor}
use Rattle.std.specs.List.{onto_first, list_all}
use Rattle.target_base.specs.Names.{is_digit}

-- the parts of a text, each of which this byte ends; the last may lack it
unfoldable pub parts : ℕ → List ℕ → List (List ℕ)
parts end [] = []
parts end (b ∷ bs) = if b == end then [] ∷ parts end bs else onto_first b (parts end bs)

-- a newline ends a line
abbrev pub lines : List ℕ → List (List ℕ)
lines text = parts 10 text

abbrev pub is_filled : {X : Type 0} → List X → Bool
is_filled [] = false
is_filled (b ∷ bs) = true

-- the runs of bytes other than a space
abbrev pub words : List ℕ → List (List ℕ)
words line = filter is_filled (parts 32 line)

-- a word and those of the rest of the line
abbrev pub words_from : Option (Bor (List ℕ) × Bor (List ℕ)) → List (List ℕ)
words_from None = []
words_from (Some p) = p.0.now ∷ words p.1.now

abbrev pub is_comment : List ℕ → Bool
is_comment [] = false
is_comment (b ∷ bs) = b == 35

-- a number that goes on with these digits
abbrev pub value_from : ℕ → List ℕ → ℕ
value_from n [] = n
value_from n (b ∷ bs) = value_from (n * 10 + (b - 48)) bs

-- digits, one or more
abbrev pub is_number : List ℕ → Bool
is_number w = is_filled w && list_all is_digit w

-- The number that digits spell; above 255 it counts as 255. Each number of a target is below 255.
abbrev pub number : List ℕ → ℕ
number w = min 255 (value_from 0 w)
