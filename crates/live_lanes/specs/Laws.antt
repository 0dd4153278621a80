-- What follows from a table of causes that is grown.
use Rattle.std.specs.Prelude.{◌≡◌, ◌<◌, length, ℕ, true, Option, List, ◌∷◌, [], ◌++◌, ◌↔◌}
use Rattle.live_lanes.specs.Paths.{Live}
use Rattle.mir_meaning.specs.Paths.{Step, Code, steps_of, is_written, Entry, Exit, IsMatched, Among}
use Rattle.live_lanes.specs.Graph.{Causes, is_live, writes_in, IsGrown}
use Rattle.live_lanes.specs.declared.compute.flow.BlockFlow.{BlockFlow}
use Rattle.live_lanes.specs.declared.row.LaneRange.{LaneRange}
use Rattle.target_base.specs.declared.types.Target.{Target}
use Rattle.mir_func.specs.declared.func.Block.{Block}
use Rattle.live_lanes.specs.declared.row.PieceEnd.{PieceEnd}
use Rattle.live_lanes.specs.Table.{Numbers, unseen, entry_rank, exit_rank}
use Rattle.live_lanes.specs.Entered.{shape, readings_until, starts, causes, IsNumbered, IsTableOf}
use Rattle.live_lanes.specs.Ends.{IsEnd, AreEnds, reaches, row_at}
use Rattle.live_lanes.specs.Lasting.{shapes, right_end, AllRise, AreOutward}
use Rattle.live_lanes.specs.Coded.{Doing, code_of, IsMade}
use Rattle.live_lanes.specs.Entering.{EnteredStep, blocks_entered, steps_from, is_read_last, AllApart}

-- each instruction of the code is matched
abbrev pub AllMatched : Code → Type 0
AllMatched code = (b : ℕ) (s : Step) → Among s (steps_of code b) → IsMatched s

-- the first piece of a lane in a block is marked live exactly where the lane is live at the block's start
abbrev pub StartLaw : Type 0
StartLaw = (code : Code) (why : Causes) → AllMatched code → IsGrown code why → (l b : ℕ) → (is_live (why l b 0) ≡ true) ↔ Live code b (Entry (steps_of code b)) l

-- a piece that begins with a writing is marked live exactly where the lane is live behind it
abbrev pub WritingLaw : Type 0
WritingLaw = (code : Code) (why : Causes) → AllMatched code → IsGrown code why → (l b : ℕ) (before : List Step) (s : Step) (rest : List Step) → steps_of code b ≡ before ++ s ∷ rest → is_written l s ≡ true → (is_live (why l b (writes_in l (before ++ s ∷ []))) ≡ true) ↔ Live code b (Exit s rest) l

-- a lane is live at the entry and at the exit of an instruction exactly where the piece there isn't over before
pub record IsReached (code : Code) (slots : Numbers) (why : Causes) (l b : ℕ) (before : List Step) (s : Step) (rest : List Step) (end : PieceEnd) : Type 0 where
  pub entry : IsEnd code slots why l b (writes_in l before) end → (reaches slots end (entry_rank slots s.id) ≡ true) ↔ Live code b (Entry (s ∷ rest)) l
  pub exit : IsEnd code slots why l b (writes_in l (before ++ s ∷ [])) end → (reaches slots end (exit_rank slots s.id) ≡ true) ↔ Live code b (Exit s rest) l

abbrev pub EndLaw : Type 0
EndLaw = (code : Code) (slots : Numbers) (why : Causes) → AllMatched code → IsGrown code why → IsNumbered code slots → (l b : ℕ) (before : List Step) (s : Step) (rest : List Step) → steps_of code b ≡ before ++ s ∷ rest → (end : PieceEnd) → IsReached code slots why l b before s rest end

-- the ends by the causes of a grown table are the last points that count
abbrev pub RightLaw : Type 0
RightLaw =
    (code : Code) (slots : Numbers) (flow : List BlockFlow) (rows : List LaneRange) → IsTableOf code slots flow rows → AreOutward code slots flow → IsGrown code (causes rows)
    → (l b n : ℕ) → IsEnd code slots (causes rows) l b n (right_end slots flow (causes rows) (shapes rows) l b n)

-- a table whose causes are grown and whose pieces have their ends tells at the entry and at the exit of each instruction exactly which lanes are live
pub record TellsLive (code : Code) (slots : Numbers) (rows : List LaneRange) : Type 0 where
  pub rises : AllRise slots rows
  pub entry : (l b : ℕ) (before : List Step) (s : Step) (rest : List Step) → steps_of code b ≡ before ++ s ∷ rest → (row_at slots rows l b (entry_rank slots s.id) ≡ true) ↔ Live code b (Entry (s ∷ rest)) l
  pub exit : (l b : ℕ) (before : List Step) (s : Step) (rest : List Step) → steps_of code b ≡ before ++ s ∷ rest → (row_at slots rows l b (exit_rank slots s.id) ≡ true) ↔ Live code b (Exit s rest) l

abbrev pub LookLaw : Type 0
LookLaw = (code : Code) (slots : Numbers) (flow : List BlockFlow) (rows : List LaneRange) → IsTableOf code slots flow rows → IsGrown code (causes rows) → AreEnds code slots rows → TellsLive code slots rows

-- entering the instructions of all blocks one after the other gives each lane its pieces in each block
abbrev pub EnteringLaw : Type 0
EnteringLaw = (place : ℕ → Option ℕ) (ess : List (List EnteredStep)) → AllApart ess → (l b : ℕ) → shape (blocks_entered place 0 ess l b unseen) ≡ record { is_read_last = is_read_last place l b ess; readings = readings_until l (steps_from 0 ess b); segments = starts l (steps_from 0 ess b) }

-- rows, order and ways that are made of a function's blocks are a table of its code
abbrev pub MadeLaw : Type 0
MadeLaw =
    (t : Target) (doing : Doing) (place : ℕ → Option ℕ) (bs : List Block) (slots : Numbers) (flow : List BlockFlow) (rows : List LaneRange) → IsMade t doing place bs slots flow rows
    → AllMatched (code_of doing place bs) → length rows < 4294967296 → IsTableOf (code_of doing place bs) slots flow rows
