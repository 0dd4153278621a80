-- The pieces that the instructions of a block give a lane, and tables that hold those of a whole function.
use Rattle.std.specs.Prelude.{◌≡◌, ◌<◌, ℕ, ◌+◌, Bool, true, cond, List, [], ◌∷◌, ◌++◌, Option, None, Some, slice_get, map, length}
use Rattle.slot_index.specs.Order.{number_of}
use Rattle.live_lanes.specs.declared.compute.flow.BlockFlow.{BlockFlow}
use Rattle.live_lanes.specs.declared.row.LaneUse.{LaneUse}
use Rattle.live_lanes.specs.declared.row.Cell.{Cell}
use Rattle.live_lanes.specs.declared.row.LaneRange.{LaneRange}
use Rattle.mir_meaning.specs.Paths.{Among, Step, Code, steps_of, last_of, exits_of, has, Use, Unused, Certain, Into, use_of, writing_of, is_written, IsMatched}
use Rattle.live_lanes.specs.Graph.{Causes}
pub use Rattle.live_lanes.specs.Ways.{predecessors, terminators, successors}
use Rattle.live_lanes.specs.Table.{Numbers, Seen, unseen, seen_in, Begun, cause_in}

-- a piece that begins with a writing, without its life
pub record Start : Type 0 where
  pub start : ℕ
  pub early : Bool
  pub from : Option ℕ
  pub readings : List LaneUse

-- a lane in a block, without lives
pub record Shape : Type 0 where
  pub is_read_last : Bool
  pub readings : List LaneUse
  pub segments : List Start

abbrev pub start_of : Begun → Start
start_of s = record { start = s.start; early = s.early; from = s.from; readings = s.readings }

abbrev pub shape : Seen → Shape
shape v = record { is_read_last = v.is_read_last; readings = v.readings; segments = map start_of v.segments }

abbrev pub reading : ℕ → Option ℕ → LaneUse
reading id into = record { id = id; into = into }

-- the reading of an instruction, if it uses the lane
abbrev pub reading_of : ℕ → Use → List LaneUse
reading_of id Unused = []
reading_of id Certain = reading id None ∷ []
reading_of id (Into a) = reading id (Some a) ∷ []

-- the readings from a point on up to the next writing
abbrev pub readings_until : ℕ → List Step → List LaneUse
readings_until l [] = []
readings_until l (s ∷ ss) = reading_of s.id (use_of l s) ++ cond (is_written l s) [] (readings_until l ss)

-- the pieces that begin with writings
abbrev pub starts : ℕ → List Step → List Start
starts l [] = []
starts l (s ∷ ss) = elim (writing_of l s.writes) [ None ↦ starts l ss | Some w ↦ record { start = s.id; early = w.early; from = w.from; readings = readings_until l ss } ∷ starts l ss ]

abbrev pub shape_of : Code → ℕ → ℕ → Shape
shape_of code l b = record { is_read_last = has l (last_of code b); readings = readings_until l (steps_of code b); segments = starts l (steps_of code b) }

-- the cells of a lane
abbrev pub cells_of : List LaneRange → ℕ → List Cell
cells_of rows l = elim (slice_get rows l) [ None ↦ [] | Some r ↦ r.cells.items ]

abbrev pub piece_count : Option Cell → ℕ
piece_count None = 0
piece_count (Some c) = length c.segments.items + 1

-- a lane in a block
abbrev pub rows_seen : List LaneRange → ℕ → ℕ → Seen
rows_seen rows l b = elim (slice_get rows l) [ None ↦ unseen | Some r ↦ seen_in r.cells.items b ]

abbrev pub causes : List LaneRange → Causes
causes rows l b n = cause_in (rows_seen rows l b) n

-- the numbers of instructions rise, above n, and fit 64 bits
abbrev pub Rises : Numbers → ℕ → List Step → Type 0
Rises slots n [] = Unit {0}
Rises slots n (s ∷ ss) = (n < number_of slots s.id) × (number_of slots s.id < 18446744073709551616) × Rises slots (number_of slots s.id) ss

-- numbers rise along the instructions of each block
abbrev pub IsNumbered : Code → Numbers → Type 0
IsNumbered code slots = (b : ℕ) → Rises slots 0 (steps_of code b)

-- the ways of the code, from both ends
pub record IsFlow (code : Code) (flow : List BlockFlow) : Type 0 where
  pub back : (b x : ℕ) → Among x (exits_of code b) → Among b (predecessors flow x)
  pub forth : (b x : ℕ) → Among b (predecessors flow x) → Among x (exits_of code b)
  pub leaves : (b : ℕ) (s : Step) → Among s (steps_of code b) → s.leaves ≡ true → Among s.id (terminators flow b)
  pub terminates : (b id : ℕ) → Among id (terminators flow b) → (before : List Step) × (s : Step) × (rest : List Step) × (steps_of code b ≡ before ++ s ∷ rest) × (s.id ≡ id) × (s.leaves ≡ true)

-- the rows hold the pieces of the code, live or not
abbrev pub IsEntered : Code → List LaneRange → Type 0
IsEntered code rows = (l b : ℕ) → shape (rows_seen rows l b) ≡ shape_of code l b

pub record IsTableOf (code : Code) (slots : Numbers) (flow : List BlockFlow) (rows : List LaneRange) : Type 0 where
  pub entered : IsEntered code rows
  pub numbered : IsNumbered code slots
  pub ways : IsFlow code flow
  pub matched : (b : ℕ) (s : Step) → Among s (steps_of code b) → IsMatched s
  pub few : length rows < 4294967296
