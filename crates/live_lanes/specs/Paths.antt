-- Which lanes are live in a function by what its instructions do to lanes, which go by numbers, as the table of live lanes
-- has it. Behind a terminator no path leads to what phis read at the block's end: where nothing is written between, as in each
-- function that verifies, that is the same (crate `live_laws`).
use Rattle.std.specs.Prelude.{◌≡◌, ℕ, true, false, List, [], ◌∷◌}
use Rattle.mir_meaning.specs.Paths.{Among, Step, Code, steps_of, last_of, exits_of, Certain, Into, use_of, is_written, Point, Entry, Exit}

-- A lane is live at a point of the block at a position: some path leads to a reading with no writing between. A move reads a
-- lane exactly where the lane that it fills is live behind it.
pub data Live (code : Code) : ℕ → Point → ℕ → Type 0 where
  reads : {b : ℕ} {s : Step} {rest : List Step} {l : ℕ} → use_of l s ≡ Certain → Live code b (Entry (s ∷ rest)) l
  moves : {b : ℕ} {s : Step} {rest : List Step} {l a : ℕ} → use_of l s ≡ Into a → Live code b (Exit s rest) a → Live code b (Entry (s ∷ rest)) l
  passes : {b : ℕ} {s : Step} {rest : List Step} {l : ℕ} → is_written l s ≡ false → Live code b (Exit s rest) l → Live code b (Entry (s ∷ rest)) l
  next : {b : ℕ} {s : Step} {rest : List Step} {l : ℕ} → Live code b (Entry rest) l → Live code b (Exit s rest) l
  leaps : {b x : ℕ} {s : Step} {rest : List Step} {l : ℕ} → s.leaves ≡ true → Among x (exits_of code b) → Live code x (Entry (steps_of code x)) l → Live code b (Exit s rest) l
  goes : {b x : ℕ} {l : ℕ} → Among x (exits_of code b) → Live code x (Entry (steps_of code x)) l → Live code b (Entry []) l
  phi : {b : ℕ} {l : ℕ} → Among l (last_of code b) → Live code b (Entry []) l
