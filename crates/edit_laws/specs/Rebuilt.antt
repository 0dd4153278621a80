-- A lane's cell in a block that is made anew from what the instructions do to the lane, and takes causes and ends from the cell of before.
use Rattle.std.specs.Prelude.{◌≡◌, ◌<◌, ℕ, false, List, Option, None, Some, length, map}
use Rattle.mir_meaning.specs.declared.writing.LaneDef.{LaneDef}
use Rattle.mir_meaning.specs.Paths.{Among, Step, Code, steps_of, last_of, IsMatched, Use, Unused, Certain, Into, use_of, writing_of}
use Rattle.live_lanes.specs.declared.compute.flow.BlockFlow.{BlockFlow}
use Rattle.live_lanes.specs.declared.row.LaneRange.{LaneRange}
use Rattle.live_lanes.specs.Table.{Numbers, Begun, Seen, unseen, begun_cause, begun_end, with_reading, with_segment}
use Rattle.live_lanes.specs.Entered.{reading, start_of, readings_until, starts, shape_of, rows_seen, IsNumbered, IsFlow, IsTableOf}
use Rattle.live_lanes.specs.Entering.{AreApart, enter_all}
use Rattle.edit_laws.specs.CarriedRows.{started, CopiesPieces}
use Rattle.edit_laws.specs.Reasons.{Touched, IsEditOf}

-- what an instruction does to the lane is entered behind what is there: its reading, and then its writing
abbrev pub lane_used : ℕ → Use → Seen → Seen
lane_used id Unused v = v
lane_used id Certain v = with_reading (reading id None) v
lane_used id (Into a) v = with_reading (reading id (Some a)) v

abbrev pub lane_written : ℕ → Option LaneDef → Seen → Seen
lane_written id None v = v
lane_written id (Some w) v = with_segment id w.early w.from v

abbrev pub lane_entered : ℕ → Step → Seen → Seen
lane_entered l s v = lane_written s.id (writing_of l s.writes) (lane_used s.id (use_of l s) v)

-- so are the instructions of a block, one after the other
abbrev pub rebuilt : ℕ → List Step → Seen
rebuilt l ss = enter_all (lane_entered l) ss unseen

-- a piece with the cause and the end of the one that began so
abbrev pub copied_piece : Seen → Begun → Begun
copied_piece old s = record s { cause = begun_cause (started s.start old.segments); end = begun_end (started s.start old.segments) }

-- the pieces of one with the causes and the ends of another, and what phis read at the block's end
abbrev pub copied : Seen → Seen → Seen
copied old new = record { is_read_last = old.is_read_last; cause = old.cause; end = old.end; readings = new.readings; segments = map (copied_piece old) new.segments }

-- the pieces of the instructions
pub record HasPieces (l : ℕ) (ss : List Step) (v : Seen) : Type 0 where
  pub readings : v.readings ≡ readings_until l ss
  pub segments : map start_of v.segments ≡ starts l ss

-- Entering the instructions of a block gives the lane its pieces there, if no two have one id.
abbrev pub RebuiltLaw : Type 0
RebuiltLaw = (l : ℕ) (ss : List Step) → AreApart ss → HasPieces l ss (rebuilt l ss)

-- Where no instruction of a block is touched at a lane, the code still has the lane's pieces there.
abbrev pub UntouchedLaw : Type 0
UntouchedLaw = (touched : Touched) (old new : Code) (l b : ℕ) → IsEditOf touched old new → ((id : ℕ) → touched l b id ≡ false) → shape_of old l b ≡ shape_of new l b

-- a cell is made anew, or it stays where the code still has its pieces
pub data IsRebuilt (old new : Code) (l b : ℕ) (was now : Seen) : Type 0 where
  made_anew : now ≡ copied was (rebuilt l (steps_of new b)) → IsRebuilt old new l b was now
  stays : shape_of old l b ≡ shape_of new l b → now ≡ was → IsRebuilt old new l b was now

-- rows of a new code, whose cells are made so
pub record AreRebuilt (old new : Code) (slots : Numbers) (flow : List BlockFlow) (x z : List LaneRange) : Type 0 where
  pub last : (b : ℕ) → last_of old b ≡ last_of new b
  pub numbered : IsNumbered new slots
  pub ways : IsFlow new flow
  pub matched : (b : ℕ) (s : Step) → Among s (steps_of new b) → IsMatched s
  pub few : length z < 4294967296
  pub cells : (l b : ℕ) → IsRebuilt old new l b (rows_seen x l b) (rows_seen z l b)

-- they are a table of the new code, with the causes and the ends of before
pub record AreTaken (new : Code) (slots : Numbers) (flow : List BlockFlow) (x z : List LaneRange) : Type 0 where
  pub table : IsTableOf new slots flow z
  pub copies : (l b : ℕ) → CopiesPieces (rows_seen x l b) (rows_seen z l b)

abbrev pub RebuiltRowsLaw : Type 0
RebuiltRowsLaw =
    (old new : Code) (slots slots' : Numbers) (flow flow' : List BlockFlow) (x z : List LaneRange) → IsTableOf old slots flow x → AreRebuilt old new slots' flow' x z → AreTaken new slots' flow' x z
