-- Lanes that an edited code names nowhere: their rows are taken away whole.
use Rattle.std.specs.Prelude.{◌≡◌, ◌<◌, ℕ, Bool, true, false, List, length}
use Rattle.mir_meaning.specs.Paths.{Among, Step, Code, steps_of, last_of, Unused, use_of, is_written, IsMatched}
use Rattle.live_lanes.specs.declared.compute.flow.BlockFlow.{BlockFlow}
use Rattle.live_lanes.specs.declared.row.LaneRange.{LaneRange}
use Rattle.live_lanes.specs.Table.{Numbers, unseen}
use Rattle.live_lanes.specs.Entered.{rows_seen, causes, IsNumbered, IsFlow, IsTableOf}
use Rattle.edit_laws.specs.Rechecked.{KeepCauses}
use Rattle.edit_laws.specs.Rebuilt.{IsRebuilt}

-- no instruction of the code uses or writes the lane, and no phi reads it where a block ends
pub record IsUnnamed (code : Code) (l : ℕ) : Type 0 where
  pub unused : (b : ℕ) (s : Step) → Among s (steps_of code b) → use_of l s ≡ Unused
  pub unwritten : (b : ℕ) (s : Step) → Among s (steps_of code b) → is_written l s ≡ false
  pub unread : (b : ℕ) → Among l (last_of code b) → ⊥

-- the code doesn't name the lane, and the rows hold nothing of it
pub record IsLetGo (code : Code) (rows : List LaneRange) (l : ℕ) : Type 0 where
  pub unnamed : IsUnnamed code l
  pub empty : (b : ℕ) → rows_seen rows l b ≡ unseen

-- What becomes of a lane over edits, by whether it is let go: each of its cells is made anew or stays, or its row is emptied.
pub data IsLaneEdited (old new : Code) (l : ℕ) (x z : List LaneRange) : Bool → Type 0 where
  cells_rebuilt : ((b : ℕ) → IsRebuilt old new l b (rows_seen x l b) (rows_seen z l b)) → IsLaneEdited old new l x z false
  let_go : IsLetGo new z l → IsLaneEdited old new l x z true

-- rows of a new code, of whose lanes this becomes
pub record AreLanesEdited (old new : Code) (slots : Numbers) (flow : List BlockFlow) (lets_go : ℕ → Bool) (x z : List LaneRange) : Type 0 where
  pub last : (b : ℕ) → last_of old b ≡ last_of new b
  pub numbered : IsNumbered new slots
  pub ways : IsFlow new flow
  pub matched : (b : ℕ) (s : Step) → Among s (steps_of new b) → IsMatched s
  pub few : length z < 4294967296
  pub lanes : (l : ℕ) → IsLaneEdited old new l x z (lets_go l)

-- They are a table of the new code, in which what is live keeps its cause of before.
abbrev pub LanesEditedLaw : Type 0
LanesEditedLaw =
    (old new : Code) (slots slots' : Numbers) (flow flow' : List BlockFlow) (lets_go : ℕ → Bool) (x z : List LaneRange) → IsTableOf old slots flow x → AreLanesEdited old new slots' flow' lets_go x z
    → IsTableOf new slots' flow' z × KeepCauses old new (causes x) (causes z)
