-- Functions of which paths tell the same, with and without ways from terminators to what phis read.
use Rattle.std.specs.Prelude.{◌≡◌, ℕ, false, true, List, ◌∷◌, ◌++◌}
use Rattle.mir_meaning.specs.Paths.{Among, Step, Code, steps_of, last_of, is_written}

-- behind a terminator nothing is written that phis read at the end of the block
abbrev pub IsQuiet : Code → Type 0
IsQuiet code = (b l : ℕ) (before : List Step) (s : Step) (rest : List Step) → steps_of code b ≡ before ++ s ∷ rest → s.leaves ≡ true → Among l (last_of code b) → (r : Step) → Among r rest → is_written l r ≡ false
