-- Which lanes a table tells to be live or occupied, against the code that it is made of.
use Rattle.std.specs.Prelude.{◌≡◌, ◌⊎◌, ◌↔◌, ℕ, Bool, true, false, List, [], ◌∷◌, ◌++◌, Option, None, Some}
use Rattle.mir_meaning.specs.declared.writing.LaneDef.{LaneDef}
use Rattle.live_lanes.specs.declared.compute.flow.BlockFlow.{BlockFlow}
use Rattle.live_lanes.specs.declared.row.LaneRange.{LaneRange}
use Rattle.live_lanes.specs.Paths.{Live}
use Rattle.mir_meaning.specs.Paths.{Step, Code, steps_of, writing_of, is_written, Entry, Exit}
use Rattle.live_lanes.specs.Graph.{IsGrown}
use Rattle.live_lanes.specs.Table.{Numbers, entry_rank, exit_rank}
use Rattle.live_lanes.specs.Entered.{rows_seen, causes, IsTableOf}
use Rattle.live_lanes.specs.Ends.{AreEnds}
use Rattle.live_lanes.specs.Held.{held_at}

abbrev pub writes_early : Option LaneDef → Bool
writes_early None = false
writes_early (Some w) = w.early

-- a lane is told to be live or occupied at a block's start where it is live there, at the entry of an instruction where it is live
-- there or written early, and at the exit where it is live there or written
pub record TellsHeld (code : Code) (slots : Numbers) (rows : List LaneRange) : Type 0 where
  pub start : (l b : ℕ) → (held_at slots (rows_seen rows l b) 0 ≡ true) ↔ Live code b (Entry (steps_of code b)) l
  pub entry : (l b : ℕ) (before : List Step) (s : Step) (rest : List Step) → steps_of code b ≡ before ++ s ∷ rest → (held_at slots (rows_seen rows l b) (entry_rank slots s.id) ≡ true) ↔ (Live code b (Entry (s ∷ rest)) l ⊎ (writes_early (writing_of l s.writes) ≡ true))
  pub exit : (l b : ℕ) (before : List Step) (s : Step) (rest : List Step) → steps_of code b ≡ before ++ s ∷ rest → (held_at slots (rows_seen rows l b) (exit_rank slots s.id) ≡ true) ↔ (Live code b (Exit s rest) l ⊎ (is_written l s ≡ true))

-- a table whose causes are grown and whose pieces have their ends tells so
abbrev pub HeldLaw : Type 0
HeldLaw = (code : Code) (slots : Numbers) (flow : List BlockFlow) (rows : List LaneRange) → IsTableOf code slots flow rows → IsGrown code (causes rows) → AreEnds code slots rows → TellsHeld code slots rows
