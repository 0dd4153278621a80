-- Up to where each piece lasts, by the causes of all pieces and their readings.
use Rattle.std.specs.Prelude.{◌≡◌, ℕ, zero, suc, Bool, true, false, cond, ◌&&◌, nat_eq, nat_lt, nat_le, List, [], ◌∷◌, Option, None, Some, length, slice_get}
use Rattle.std.specs.List.{list_any}
use Rattle.slot_index.specs.Order.{number_of}
use Rattle.live_lanes.specs.declared.compute.flow.BlockFlow.{BlockFlow}
use Rattle.live_lanes.specs.declared.row.Cause.{Cause}
use Rattle.live_lanes.specs.declared.row.Cause.TheVariants as causes
use Rattle.live_lanes.specs.declared.row.Cell.{Cell}
use Rattle.live_lanes.specs.declared.row.PieceEnd.{PieceEnd}
use Rattle.live_lanes.specs.declared.row.PieceEnd.TheVariants as ends
use Rattle.live_lanes.specs.declared.row.LaneUse.{LaneUse}
use Rattle.live_lanes.specs.declared.row.LaneRange.{LaneRange}
use Rattle.mir_meaning.specs.Paths.{Among, Code, exits_of}
use Rattle.live_lanes.specs.Graph.{Causes, is_live}
use Rattle.live_lanes.specs.Ways.{successors, terminators}
use Rattle.live_lanes.specs.Table.{Numbers, exit_rank, end_rank, leading, rises_from, with_end_at}
use Rattle.live_lanes.specs.Entered.{Start, Shape, shape, rows_seen, cells_of}
use Rattle.live_lanes.specs.Entered.{causes as why_of}
use Rattle.live_lanes.specs.Ordered.{AreRising}
use Rattle.live_lanes.specs.Ends.{row_end}

-- each lane in each block, without lives
abbrev pub Shapes : Type 0
Shapes = ℕ → ℕ → Shape

abbrev pub shapes : List LaneRange → Shapes
shapes rows l b = shape (rows_seen rows l b)

-- the piece that the point of that rank lies in
abbrev pub piece_of : Numbers → ℕ → Shape → ℕ
piece_of slots at h = leading (λ (s : Start). nat_le (exit_rank slots s.start) at) h.segments

abbrev pub start_readings : Option Start → List LaneUse
start_readings None = []
start_readings (Some s) = s.readings

-- the readings of a piece
abbrev pub readings_of : Shape → ℕ → List LaneUse
readings_of h zero = h.readings
readings_of h (suc k) = start_readings (slice_get h.segments k)

abbrev pub later_of : {X : Type 0} → Option X → Option X → Option X
later_of None q = q
later_of (Some x) q = Some x

-- the last element that passes the test
abbrev pub last_with : {X : Type 0} → (X → Bool) → List X → Option X
last_with test [] = None
last_with test (x ∷ xs) = later_of (last_with test xs) (cond (test x) (Some x) None)

-- a reading counts: it is in any case, or what it is moved into is live behind the instruction
abbrev pub reading_counts : Numbers → Causes → Shapes → ℕ → LaneUse → Bool
reading_counts slots why shapes b r = elim r.into [ None ↦ true | Some a ↦ is_live (why a b (piece_of slots (exit_rank slots r.id) (shapes a b))) ]

abbrev pub entry_end : Option LaneUse → PieceEnd
entry_end None = ends.Never
entry_end (Some r) = ends.Entry r.id

abbrev pub exit_end : Option ℕ → PieceEnd
exit_end None = ends.Never
exit_end (Some id) = ends.Exit id

-- the exit of an instruction lies in piece n
abbrev pub leaves_in : Numbers → Shape → ℕ → ℕ → Bool
leaves_in slots h n id = nat_eq (piece_of slots (exit_rank slots id) h) n

-- the lane is live at the start of one of these blocks
abbrev pub has_live : Causes → ℕ → List ℕ → Bool
has_live why l xs = list_any (λ x. is_live (why l x 0)) xs

-- a piece with this cause is live since the lane is at the start of a block that follows, or else the lane is so anyway
abbrev pub leads_on : List BlockFlow → Causes → ℕ → ℕ → Cause → Bool
leads_on flow why l b causes.None = has_live why l (successors flow b)
leads_on flow why l b (causes.Reading id) = has_live why l (successors flow b)
leads_on flow why l b (causes.Follower x) = true
leads_on flow why l b causes.Phi = has_live why l (successors flow b)

-- the last exit of piece n, where paths from its exits lead to a block at whose start the lane is live
abbrev pub last_exit : Numbers → List BlockFlow → Causes → Shape → ℕ → ℕ → ℕ → Cause → PieceEnd
last_exit slots flow why h l b n cause =
    cond (leads_on flow why l b cause) (cond (nat_eq n (length h.segments)) ends.Last (exit_end (last_with (leaves_in slots h n) (terminators flow b)))) ends.Never

-- the last entry at which one of these readings counts
abbrev pub last_entry : Numbers → Causes → Shapes → ℕ → List LaneUse → PieceEnd
last_entry slots why shapes b rs = entry_end (last_with (reading_counts slots why shapes b) rs)

abbrev pub later : Numbers → PieceEnd → PieceEnd → PieceEnd
later slots a b = cond (nat_lt (end_rank slots a) (end_rank slots b)) b a

-- up to where a lane is live in piece n, which has this cause and these readings; at the block's end, where a phi reads it there
abbrev pub live_end : Numbers → List BlockFlow → Causes → Shapes → Shape → ℕ → ℕ → ℕ → Cause → List LaneUse → PieceEnd
live_end slots flow why shapes h l b n cause rs =
    cond (h.is_read_last && nat_eq n (length h.segments)) ends.Last (later slots (last_exit slots flow why h l b n cause) (last_entry slots why shapes b rs))

-- up to where a piece lasts; one that isn't live has no end
abbrev pub right_end : Numbers → List BlockFlow → Causes → Shapes → ℕ → ℕ → ℕ → PieceEnd
right_end slots flow why shapes l b n = cond (is_live (why l b n)) (live_end slots flow why shapes (shapes l b) l b n (why l b n) (readings_of (shapes l b) n)) ends.Never

-- the numbers of the segments of each lane in each block rise
abbrev pub AllRise : Numbers → List LaneRange → Type 0
AllRise slots rows = (l b : ℕ) → rises_from slots 0 (rows_seen rows l b).segments ≡ true

-- the end of a piece of the cell of a lane at a place
abbrev pub cell_end : Numbers → List BlockFlow → Causes → Shapes → ℕ → ℕ → Option Cell → PieceEnd
cell_end slots flow why shapes l n None = ends.Never
cell_end slots flow why shapes l n (Some c) = right_end slots flow why shapes l c.block n

-- a piece of the cell of a lane at a place gets an end; all else stays
abbrev pub SetsEnd : List LaneRange → List LaneRange → ℕ → ℕ → ℕ → PieceEnd → Type 0
SetsEnd old new lane place index end = (l b : ℕ) → rows_seen new l b ≡ cond (nat_eq lane l) (with_end_at (slice_get (cells_of old lane) place) index end (rows_seen old l b) b) (rows_seen old l b)

-- the piece has its end
abbrev pub Lasts : Numbers → List BlockFlow → List LaneRange → List LaneRange → ℕ → ℕ → ℕ → Type 0
Lasts slots flow old new l b n = row_end new l b n ≡ right_end slots flow (why_of old) (shapes old) l b n

-- pieces get their ends, these among them, and keep them
pub record GivesEnds (slots : Numbers) (flow : List BlockFlow) (old new : List LaneRange) (Given : ℕ → ℕ → Type 0) : Type 0 where
  pub given : (l b n : ℕ) → Given l b → Lasts slots flow old new l b n
  pub kept : (l b n : ℕ) → Lasts slots flow old old l b n → Lasts slots flow old new l b n

-- the ways out of the blocks of the code; the numbers of their terminators rise
pub record AreOutward (code : Code) (slots : Numbers) (flow : List BlockFlow) : Type 0 where
  pub onward : (b x : ℕ) → Among x (successors flow b) → Among x (exits_of code b)
  pub whole : (b x : ℕ) → Among x (exits_of code b) → Among x (successors flow b)
  pub rising : (b : ℕ) → AreRising slots 0 (terminators flow b)
