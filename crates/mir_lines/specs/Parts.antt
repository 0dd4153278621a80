-- The parts of a text between commas, and texts that are joined.
use Rattle.std.specs.Prelude.{ℕ, List, [], ◌∷◌, Option, Some, None, ◌==◌}
use Rattle.std.specs.List.{slice_split, join_by}
use Rattle.std.specs.Borrow.{Bor}
use Rattle.mir_lines.specs.Reads.{◌>>=◌}

-- each of these parts, in order
abbrev pub each : {X : Type 0} → (List ℕ → Option X) → List (List ℕ) → Option (List X)
each one [] = Some []
each one (part ∷ parts) = one part >>= λ x. each one parts >>= λ xs. Some (x ∷ xs)

-- the parts between commas; a text without a comma is one part
unfoldable pub comma_parts : List ℕ → List (List ℕ)
comma_parts text = slice_split (λ b. b == 44) text

-- the first part, and those of what stands behind its comma
abbrev pub parts_from : Bor (List ℕ) × Option (Bor (List ℕ)) → List (List ℕ)
parts_from (part, None) = part.now ∷ []
parts_from (part, Some rest) = part.now ∷ comma_parts rest.now

-- the words with this separator between them
unfoldable pub joined : List ℕ → List (List ℕ) → List ℕ
joined separator words = join_by (λ w. w) separator words
