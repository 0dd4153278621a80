-- The pieces of a file.
use Rattle.std.specs.Prelude.{◌≡◌, ◌==◌, ◌⊎◌, ℕ, ◌<◌, ◌+◌, Bool, IsTrue, false, ◌&&◌, if◌then◌else◌, List, [], ◌∷◌, ◌++◌, length, take, nat_le, fold}
use Rattle.std.specs.List.{list_all, list_any}

-- the lines of a text that a newline ends, the latest first, and the bytes behind the last newline
pub record Lines : Type 0 where
  pub ended : List (List ℕ)
  pub last : List ℕ

abbrev pub no_lines : Lines
no_lines = record { ended = []; last = [] }

-- the lines of a text that goes on with a byte
abbrev pub with_byte : Lines → ℕ → Lines
with_byte l b =
    if b == 10 then record { ended = l.last ∷ l.ended; last = [] }
    else record { ended = l.ended; last = l.last ++ b ∷ [] }

unfoldable pub lines_of : List ℕ → Lines
lines_of text = fold with_byte no_lines text

-- the line begins with `---`
abbrev pub begins_document : List ℕ → Bool
begins_document line = nat_le 3 (length line) && list_all (λ b. b == 45) (take 3 line)

-- the line is exactly `...`
abbrev pub is_end_line : List ℕ → Bool
is_end_line line = length line == 3 && list_all (λ b. b == 46) line

-- the latest line is `...`, and an earlier one begins with `---`
abbrev pub end_document : List (List ℕ) → Bool
end_document [] = false
end_document (line ∷ earlier) = is_end_line line && list_any begins_document earlier

-- the text ends with the newline of a line `...`, which follows a line that begins with `---`
abbrev pub is_whole : List ℕ → Bool
is_whole text = length (lines_of text).last == 0 && end_document (lines_of text).ended

-- no shorter beginning of the text is whole
abbrev pub NoneWhole : List ℕ → Type 0
NoneWhole text = (j : ℕ) → j < length text → is_whole (take j text) ≡ false

-- the most bytes of a document, and one more
abbrev pub held_most : ℕ
held_most = 4194304 + 1

-- the text is a first piece, which the rest of the file follows: it is whole as no shorter beginning
-- is, or the file ends with it
pub record IsPiece (text rest : List ℕ) : Type 0 where
  pub filled : 0 < length text
  pub none : NoneWhole text
  pub end : IsTrue (is_whole text) ⊎ (rest ≡ [])
