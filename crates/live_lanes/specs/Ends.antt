-- Up to where a lane is live in each piece.
use Rattle.std.specs.Prelude.{◌≡◌, ◌⊎◌, ◌≤◌, ℕ, Bool, true, List, [], ◌∷◌, ◌++◌}
use Rattle.live_lanes.specs.declared.row.PieceEnd.{PieceEnd}
use Rattle.live_lanes.specs.declared.row.PieceEnd.TheVariants as ends
use Rattle.live_lanes.specs.declared.row.LaneRange.{LaneRange}
use Rattle.mir_meaning.specs.Paths.{Among, Step, Code, steps_of, last_of, exits_of, Certain, Into, use_of}
use Rattle.live_lanes.specs.Graph.{Causes, is_live, writes_in}
use Rattle.live_lanes.specs.Table.{Numbers, end_rank, end_in}
pub use Rattle.live_lanes.specs.Reach.{reaches, seen_at}
use Rattle.live_lanes.specs.Entered.{rows_seen, causes}

-- The points of piece n of a lane in a block that count: the entry of an instruction that reads the lane in any case, or that
-- moves it into a lane that is live behind the instruction; the exit of a terminator and the block's end, where the lane is live
-- at the start of a block that follows; the block's end, where a phi reads it there.
pub data Counts (code : Code) (why : Causes) (l b n : ℕ) : PieceEnd → Type 0 where
  reads : (before : List Step) (s : Step) (rest : List Step) → steps_of code b ≡ before ++ s ∷ rest → writes_in l before ≡ n → use_of l s ≡ Certain → Counts code why l b n (ends.Entry s.id)
  moves : (a : ℕ) (before : List Step) (s : Step) (rest : List Step) → steps_of code b ≡ before ++ s ∷ rest → writes_in l before ≡ n → use_of l s ≡ Into a → is_live (why a b (writes_in a (before ++ s ∷ []))) ≡ true → Counts code why l b n (ends.Entry s.id)
  leaves : (x : ℕ) (before : List Step) (s : Step) (rest : List Step) → steps_of code b ≡ before ++ s ∷ rest → writes_in l (before ++ s ∷ []) ≡ n → s.leaves ≡ true → Among x (exits_of code b) → is_live (why l x 0) ≡ true → Counts code why l b n (ends.Exit s.id)
  goes : (x : ℕ) → writes_in l (steps_of code b) ≡ n → Among x (exits_of code b) → is_live (why l x 0) ≡ true → Counts code why l b n ends.Last
  phi : writes_in l (steps_of code b) ≡ n → Among l (last_of code b) → Counts code why l b n ends.Last

-- the end of a piece: the last of its points that count, if there is one
pub record IsEnd (code : Code) (slots : Numbers) (why : Causes) (l b n : ℕ) (end : PieceEnd) : Type 0 where
  pub counts : (end ≡ ends.Never) ⊎ Counts code why l b n end
  pub last : (p : PieceEnd) → Counts code why l b n p → end_rank slots p ≤ end_rank slots end

-- the end of a piece in rows
abbrev pub row_end : List LaneRange → ℕ → ℕ → ℕ → PieceEnd
row_end rows l b n = end_in (rows_seen rows l b) n

-- each piece has its end
abbrev pub AreEnds : Code → Numbers → List LaneRange → Type 0
AreEnds code slots rows = (l b n : ℕ) → IsEnd code slots (causes rows) l b n (row_end rows l b n)

-- the lane of that number is live at the point of that rank in the block at a position
abbrev pub row_at : Numbers → List LaneRange → ℕ → ℕ → ℕ → Bool
row_at slots rows l b at = seen_at slots (rows_seen rows l b) at
